use mathlib.Core.Path.{◌≡◌}
use Rattle.compare_map.specs.Relation.{rows_of}
use Rattle.compare_map.proofs.rows_of.Given as goal

abbrev pub invariant-loop-i : goal.invariant-loop-i
invariant-loop-i l = l.rows ≡ rows_of l.map l.i l.m
