-- `sheet_writer::put_header` meets its contract: three runs of bytes, one behind another.
use Rattle.sheet_writer.proofs.Laws.{header-written}
use Rattle.sheet_writer.proofs.put_header.Goals as goal

pub returns : goal.returns
returns c = search header-written
