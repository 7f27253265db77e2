use Rattle.search_tables.proofs.Exits.{Mating}
use Rattle.search_tables.proofs.rowmates.Given as goal

abbrev pub invariant-loop-left : goal.invariant-loop-left
invariant-loop-left l = Mating l.z l.cells l.row l.out l.left

abbrev pub decreases-loop-left : goal.decreases-loop-left
decreases-loop-left l = l.left
