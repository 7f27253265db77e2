-- `sheet_writer::put_way` meets its contract: its head, its step count, then its steps.
use Rattle.sheet_writer.proofs.Laws.{way-written}
use Rattle.sheet_writer.proofs.put_way.Goals as goal

pub returns : goal.returns
returns c = search way-written
