-- `sheet_writer::put_not` meets its contract: its head, then its number.
use Rattle.sheet_writer.proofs.Laws.{not_written}
use Rattle.sheet_writer.proofs.put_not.Goals as goal

pub returns : goal.returns
returns c = search not_written
