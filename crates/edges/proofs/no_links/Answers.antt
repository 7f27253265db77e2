-- `edges::no_links` meets its contract.
use mathlib.Core.Path.{refl}
use native.Mathlib.Omega.{arith}
use Rattle.std.specs.Prelude.{ℕ, zero, suc, ◌<◌, get_or, replicate}
use Rattle.theory.specs.Search.{list}
use Rattle.edges.specs.GroupLaws.{ungrouped}
use Rattle.edges.proofs.no_links.Goals as goal

low : (n k : ℕ) → get_or (replicate n 0) k 0 < 64
low zero k = omega arith
low (suc n) zero = omega arith
low (suc n) (suc k) = low n k

pub invariant_of-result : goal.invariant_of-result
invariant_of-result c = record { held = record { few = omega arith; from_low = λ k l. low 512 k; to_low = λ k l. low 512 k }; grouped = ungrouped _ refl _ }

pub returns : goal.returns
unfolding list
returns c = refl
