-- `sheet_writer::put_counts` meets its contract: its head, then its step counts.
use Rattle.sheet_writer.proofs.Laws.{counts_written}
use Rattle.sheet_writer.proofs.put_counts.Goals as goal

pub returns : goal.returns
returns c = search counts_written
