-- `book::same` meets its contract.
use Rattle.book.proofs.Laws.{silent_same, heard_same}
use Rattle.book.proofs.same.Goals as goal

pub returns-then-not-both_heard : goal.returns-then-not-both_heard
returns-then-not-both_heard c = search silent_same

pub returns : goal.returns
returns c = search heard_same
