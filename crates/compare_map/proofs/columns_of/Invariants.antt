use mathlib.Core.Path.{◌≡◌}
use Rattle.compare_map.specs.Relation.{columns_of}
use Rattle.compare_map.proofs.columns_of.Given as goal

abbrev pub invariant-loop-j : goal.invariant-loop-j
invariant-loop-j l = l.columns ≡ columns_of l.rows l.n l.j
