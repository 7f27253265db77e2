use Prim.Native.Nat.{◌-◌, ◌≤◌}
use Rattle.search_links.specs.Sides.{view}
use Rattle.search_tables.specs.Tips.{TableRoom}
use Rattle.search_steps.specs.Tables.{last_place}
use Rattle.search_levels.proofs.Gathering.{Gathering}
use Rattle.search_levels.proofs.+gather.Given as goal

abbrev pub decreases-gather : goal.decreases-gather
decreases-gather l = l.more

abbrev pub invariant-loop-at : goal.invariant-loop-at
invariant-loop-at l = (2 ≤ l.more) × (l.at ≤ last_place) × TableRoom l.next.lefts l.next.rights 0 × Gathering (view l.a) (view l.b) l.z l.a.ends l.b.ends l.wide l.from.lefts l.from.rights l.first l.m l.initial.table.lefts l.initial.table.rights l.base l.n l.more l.at l.table.lefts l.table.rights l.count

abbrev pub decreases-loop-at : goal.decreases-loop-at
decreases-loop-at l = last_place - l.at
