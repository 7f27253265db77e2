-- `sheet_writer::put_true` meets its contract: its two bytes.
use Rattle.sheet_writer.proofs.Laws.{true_written}
use Rattle.sheet_writer.proofs.put_true.Goals as goal

pub returns : goal.returns
returns c = search true_written
