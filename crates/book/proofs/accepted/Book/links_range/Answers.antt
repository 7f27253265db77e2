-- `book::Book::links_range` meets its contract.
use Rattle.std.proofs.Common.{◌<◌, arith}
use Rattle.book.specs.AcceptedLaws.{cell_few}
use Rattle.book.proofs.Laws.{range_out}
use Rattle.book.proofs.accepted.Book.links_range.Goals as goal

pub overflow_add-cell : goal.overflow_add-cell
overflow_add-cell c = let h : c.args.cell < 64 = search cell_few in omega arith

pub returns : goal.returns
returns c = search range_out
