-- `book::part_from` meets its contract.
use Rattle.book.proofs.Laws.{part_none, part_some}
use Rattle.book.proofs.part_from.Goals as goal

pub returns-then-count-eq0 : goal.returns-then-count-eq0
returns-then-count-eq0 c = search part_none

pub returns : goal.returns
returns c = search part_some
