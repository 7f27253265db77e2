use mathlib.Core.Path.{◌≡◌}
use Prim.Native.Nat.{ℕ, ◌<◌}
use Rattle.std.proofs.Common.{Bool}
use Rattle.words.specs.Words.{word_of}
use Rattle.words.proofs.those.Given as goal

abbrev pub invariant-loop-x : goal.invariant-loop-x
invariant-loop-x g l = (p : ℕ → Bool) → ((x : ℕ) (r : Bool) → x < l.n → goal.F-post g l.test x r → r ≡ p x) → l.out ≡ word_of l.x p
