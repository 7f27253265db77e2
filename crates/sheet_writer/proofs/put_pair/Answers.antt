-- `sheet_writer::put_pair` meets its contract: two stores.
use native.Mathlib.Omega.{arith}
use lib.ListN.{length-set}
use Rattle.sheet_writer.proofs.Laws.{pair_written}
use Rattle.sheet_writer.proofs.put_pair.Goals as goal

pub bounds-room-at-2 : goal.bounds-room-at-2
bounds-room-at-2 c = simp length-set (omega arith)

pub returns : goal.returns
returns c = search pair_written
