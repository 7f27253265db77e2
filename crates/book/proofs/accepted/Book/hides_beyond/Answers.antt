-- `book::Book::hides_beyond` meets its contract.
use Rattle.book.proofs.Laws.{beyond}
use Rattle.book.proofs.accepted.Book.hides_beyond.Goals as goal

pub returns : goal.returns
returns c = search beyond
