use mathlib.Core.Path.{◌≡◌}
use Prim.Native.Nat.{ℕ, ◌^◌, ◌<◌}
use Rattle.search_links.proofs.Laws.{Joins, joined}
use Rattle.search_links.proofs.spread.Given as goal

abbrev pub invariant-loop-left : goal.invariant-loop-left
invariant-loop-left g l = ((f : ℕ → ℕ) → ((x r : ℕ) → x < 64 → goal.F-post g l.rule x r → r ≡ f x) → Joins l.out (joined f l.left) (joined f l.w)) × (l.out < 2 ^ 64) × (l.left < 2 ^ 64)

abbrev pub decreases-loop-left : goal.decreases-loop-left
decreases-loop-left g l = l.left
