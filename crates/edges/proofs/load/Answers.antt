-- `edges::load` meets its contract. The links are not grouped.
use mathlib.Core.Path.{refl}
use Rattle.edges.specs.GroupLaws.{ungrouped}
use Rattle.edges.proofs.load.Goals as goal

pub invariant_of-links : goal.invariant_of-links
invariant_of-links c = record { held = c.fill-count.ensures.held; grouped = ungrouped _ refl _ }
