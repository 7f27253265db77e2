use mathlib.Core.Path.{◌≡◌}
use Rattle.edges.specs.Differing.{differing_to}
use Rattle.edges.proofs.differ_rows.Given as goal

abbrev pub invariant-loop-x : goal.invariant-loop-x
invariant-loop-x l = l.rows ≡ differing_to l.sames l.n l.x
