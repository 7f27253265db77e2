use Prim.Native.Nat.{◌-◌}
use Rattle.search_links.specs.Sides.{view}
use Rattle.search_levels.specs.Depths.{Became}
use Rattle.search_levels.proofs.reach.Given as goal

abbrev pub invariant-loop-at : goal.invariant-loop-at
invariant-loop-at l = Became (view l.a) (view l.b) l.z l.a.ends l.b.ends l.initial.table.lefts l.initial.table.rights l.initial.at l.table.lefts l.table.rights l.at

abbrev pub decreases-loop-at : goal.decreases-loop-at
decreases-loop-at l = l.n - l.at.known
