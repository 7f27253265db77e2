-- `Sheet::entries` meets its contract: a sheet that is accepted has a header.
use borrow.Author.Rules.{rules}
use Rattle.sheet.proofs.Laws.{sheet_long}
use Rattle.sheet.proofs.accepted.Sheet.entries.Goals as goal

pub get-requires : goal.get-requires
get-requires c = search (rules, sheet_long)
