-- `book::Book::version` meets its contract.
use Rattle.book.specs.AcceptedLaws.{book_long}
use Rattle.book.proofs.accepted.Book.version.Goals as goal

pub version_of-requires : goal.version_of-requires
version_of-requires c = search book_long
