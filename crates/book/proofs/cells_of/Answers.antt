-- `book::cells_of` meets its contract.
use Rattle.fields.specs.Laws.{byte}
use Rattle.book.proofs.cells_of.Goals as goal

pub returns : goal.returns
returns c = (search byte, (c.type_inv.bytes 5).fits)
