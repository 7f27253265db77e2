-- `book::Book::first_link` meets its contract.
use Rattle.std.proofs.Common.{arith, rules}
use Rattle.book.proofs.Laws.{links_room, first-among}
use Rattle.book.proofs.accepted.Book.first_link.Goals as goal

pub first_by_counts-requires : goal.first_by_counts-requires
first_by_counts-requires c = (omega arith, omega arith, search links_room)

pub returns : goal.returns
returns c = (search first-among, search rules)
