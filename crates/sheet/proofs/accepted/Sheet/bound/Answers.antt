-- `Sheet::bound` meets its contract: a sheet that is accepted has a header.
use borrow.Author.Rules.{rules}
use Rattle.sheet.proofs.Laws.{sheet_long}
use Rattle.sheet.proofs.accepted.Sheet.bound.Goals as goal

pub bounds-self-5 : goal.bounds-self-5
bounds-self-5 c = search (rules, sheet_long)
