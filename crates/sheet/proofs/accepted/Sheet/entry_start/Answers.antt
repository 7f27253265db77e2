-- `Sheet::entry_start` meets its contract: the loop keeps `at` at the start of the next entry.
use mathlib.Core.Path.{refl}
use Rattle.sheet.specs.Sheet.{start_from}
use Rattle.sheet.proofs.Laws.{start_readable, start_next, start_end}
use Rattle.sheet.proofs.accepted.Sheet.entry_start.Goals as goal

pub loop-init : goal.loop-init
unfolding start_from
loop-init c = refl

pub next_start-at-requires : goal.next_start-at-requires
next_start-at-requires c = search start_readable

pub loop-preserved : goal.loop-preserved
loop-preserved c = search start_next

pub returns : goal.returns
returns c = search start_end
