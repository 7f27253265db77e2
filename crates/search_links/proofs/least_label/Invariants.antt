use Rattle.search_links.specs.Sides.{view}
use Rattle.search_links.proofs.Laws.{Under}
use Rattle.search_links.proofs.least_label.Given as goal

abbrev pub invariant-loop-k : goal.invariant-loop-k
invariant-loop-k l = Under (view l.a) l.x l.least l.k
