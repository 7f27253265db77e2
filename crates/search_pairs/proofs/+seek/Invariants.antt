use Prim.Native.Nat.{◌-◌, ◌≤◌}
use Rattle.search_links.specs.Sides.{view}
use Rattle.search_tables.specs.Tips.{TableRoom}
use Rattle.search_steps.specs.Tables.{last_place}
use Rattle.search_pairs.proofs.Loops.{weight, Below}
use Rattle.search_pairs.proofs.+seek.Given as goal

abbrev pub decreases-seek : goal.decreases-seek
decreases-seek l = weight l.more l.rest l.turned

abbrev pub invariant-loop-at : goal.invariant-loop-at
invariant-loop-at l = record {
  few : l.at ≤ last_place;
  room : TableRoom l.onward.lefts l.onward.rights 0;
  below : Below (view l.a) (view l.b) l.z l.a.ends l.b.ends l.turned l.q.lefts l.q.rights l.qn l.rest l.p.lefts l.p.rights l.pn (l.more - 1) l.at;
}

abbrev pub decreases-loop-at : goal.decreases-loop-at
decreases-loop-at l = last_place - l.at
