use Prim.Native.Nat.{◌≤◌}
use Rattle.compare_round.specs.Twins.{first_row}
use Rattle.compare_round.proofs.first_row.Given as goal

abbrev pub invariant-loop-x : goal.invariant-loop-x
invariant-loop-x l = l.x ≤ first_row l.m l.map l.i l.j
