use mathlib.Core.Path.{◌≡◌}
use Prim.Native.Nat.{◌-◌}
use lib.ListN.{length}
use Rattle.search_links.specs.Hops.{every_label}
use Rattle.search_links.specs.Sides.{view}
use Rattle.search_steps.proofs.Exits.{Filling}
use Rattle.search_steps.proofs.fill.Given as goal

abbrev pub invariant-loop-label : goal.invariant-loop-label
invariant-loop-label l = record {
  rows : length l.rows ≡ 128;
  filling : Filling (view l.a) (view l.b) l.z l.a.ends l.b.ends l.wide l.table.lefts l.table.rights l.first l.n l.at l.initial.out.lefts l.initial.out.rights l.base l.count l.out.lefts l.out.rights l.total l.label l.from;
}

abbrev pub decreases-loop-label : goal.decreases-loop-label
decreases-loop-label l = every_label - l.label
