-- `sheet_writer::put_or` meets its contract: kind 3 of two numbers.
use Rattle.sheet_writer.proofs.Laws.{or-written}
use Rattle.sheet_writer.proofs.put_or.Goals as goal

pub returns : goal.returns
returns c = search or-written
