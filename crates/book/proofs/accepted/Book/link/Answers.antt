-- `book::Book::link` meets its contract.
use Rattle.std.proofs.Common.{rules}
use Rattle.book.specs.AcceptedLaws.{accepted_head}
use Rattle.book.proofs.accepted.Book.link.Goals as goal

pub read_link-requires : goal.read_link-requires
read_link-requires c = search (rules, accepted_head)
