-- `book::Book::recording_seen` meets its contract.
use Rattle.book.specs.AcceptedLaws.{cell_few}
use Rattle.book.proofs.Laws.{cell_fits, seen_silent, seen_as_is}
use Rattle.book.proofs.accepted.Book.recording_seen.Goals as goal

pub overflow_cast-cell : goal.overflow_cast-cell
overflow_cast-cell c = search cell_fits

pub has-requires : goal.has-requires
has-requires c = search cell_few

pub returns-then-has : goal.returns-then-has
returns-then-has c = search seen_silent

pub returns : goal.returns
returns c = search seen_as_is
