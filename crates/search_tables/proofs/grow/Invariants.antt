use Rattle.search_tables.proofs.Exits.{Growing}
use Rattle.search_tables.proofs.grow.Given as goal

abbrev pub invariant-loop-left : goal.invariant-loop-left
invariant-loop-left l = Growing l.z l.own l.ends l.wide l.initial.table.lefts l.initial.table.rights l.base l.n l.cells l.s l.table.lefts l.table.rights l.count l.left

abbrev pub decreases-loop-left : goal.decreases-loop-left
decreases-loop-left l = l.left
