use Rattle.search_tables.specs.Tips.{Rest}
use Rattle.search_tables.proofs.uncovered.Given as goal

abbrev pub invariant-loop-e : goal.invariant-loop-e
invariant-loop-e l = Rest l.table.lefts l.table.rights l.n l.cells l.w l.left
