use Rattle.search_links.specs.Sides.{view}
use Rattle.search_steps.proofs.Exits.{Labelling}
use Rattle.search_steps.proofs.next_label.Given as goal

abbrev pub invariant-loop-left : goal.invariant-loop-left
invariant-loop-left l = Labelling (view l.a) l.cells l.least l.out l.left

abbrev pub decreases-loop-left : goal.decreases-loop-left
decreases-loop-left l = l.left
