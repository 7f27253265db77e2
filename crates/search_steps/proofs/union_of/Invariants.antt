use Rattle.search_steps.specs.Tables.{Unites}
use Rattle.search_steps.proofs.union_of.Given as goal

abbrev pub invariant-loop-e : goal.invariant-loop-e
invariant-loop-e l = Unites l.sets l.first l.e l.out
