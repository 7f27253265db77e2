-- `book::recording_at` meets its contract.
use borrow.Author.Rules.{rules}
use Rattle.book.specs.Book.{recording_at}
use Rattle.book.proofs.recording_at.Goals as goal

pub returns : goal.returns
unfolding recording_at
returns c = search rules
