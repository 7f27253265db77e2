-- `sheet_writer::put_ways` meets its contract: one way behind the other.
use Rattle.sheet_writer.proofs.Laws.{second_kept, ways-written}
use Rattle.sheet_writer.proofs.put_ways.Goals as goal

pub put_steps-requires : goal.put_steps-requires
put_steps-requires c = search second_kept

pub returns : goal.returns
returns c = search ways-written
