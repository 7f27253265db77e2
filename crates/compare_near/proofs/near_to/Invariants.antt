use mathlib.Core.Path.{◌≡◌}
use Rattle.compare_near.specs.Near.{near_to}
use Rattle.compare_near.proofs.near_to.Given as goal

abbrev pub invariant-loop-k : goal.invariant-loop-k
invariant-loop-k l = l.out ≡ near_to l.starts l.to l.n l.w l._k
