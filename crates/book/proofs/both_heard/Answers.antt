-- `book::both_heard` meets its contract.
use Rattle.book.proofs.Laws.{heard_none, heard_both}
use Rattle.book.proofs.both_heard.Goals as goal

pub returns-then-a-eq0 : goal.returns-then-a-eq0
returns-then-a-eq0 c = search heard_none

pub returns : goal.returns
returns c = search heard_both
