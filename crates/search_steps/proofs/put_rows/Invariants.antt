use Prim.Native.Nat.{◌+◌, ◌*◌}
use Rattle.search_links.specs.Sides.{view, half}
use Rattle.search_steps.proofs.Exits.{Labelling, Rowing}
use Rattle.search_steps.proofs.put_rows.Given as goal

abbrev pub invariant-loop-left : goal.invariant-loop-left
invariant-loop-left l = record {
  rowing : Rowing (view l.a) l.cells l.label (64 * half l.t) l.initial.rows l.rows l.left;
  labelling : Labelling (view l.a) l.cells (l.label + 1) l.next l.left;
}

abbrev pub decreases-loop-left : goal.decreases-loop-left
decreases-loop-left l = l.left
