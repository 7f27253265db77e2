-- `sheet_writer::put_two` meets its contract: its head, then its numbers.
use Rattle.sheet_writer.proofs.Laws.{two-written}
use Rattle.sheet_writer.proofs.put_two.Goals as goal

pub returns : goal.returns
returns c = search two-written
