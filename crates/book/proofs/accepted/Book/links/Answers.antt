-- `book::Book::links` meets its contract.
use Rattle.std.proofs.Common.{arith, rules}
use Rattle.book.specs.AcceptedLaws.{book_sizes, book_long}
use Rattle.book.proofs.accepted.Book.links.Goals as goal

pub links_of-requires : goal.links_of-requires
links_of-requires c = search book_long

pub returns : goal.returns
returns c = (search rules, omega (arith, (book_sizes c.args.self.bytes.now c.args.self.accepted).most))
