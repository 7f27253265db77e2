-- `sheet_writer::put_and` meets its contract: kind 2 of two numbers.
use Rattle.sheet_writer.proofs.Laws.{and-written}
use Rattle.sheet_writer.proofs.put_and.Goals as goal

pub returns : goal.returns
returns c = search and-written
