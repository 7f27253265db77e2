-- `open_book::OpenBook::answer` meets its contract.
use Rattle.open_book.proofs.Exits.{answer_checked, answer_counted}
use Rattle.open_book.proofs.OpenBook.answer.Goals as goal

pub returns-then-self-eq0 : goal.returns-then-self-eq0
returns-then-self-eq0 c = search answer_checked

pub returns : goal.returns
returns c = search answer_counted
