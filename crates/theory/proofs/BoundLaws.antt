-- To keep to bound c is to have maximum length at most c, as 000 says it.
use Rattle.std.specs.Prelude.{◌↔◌, ℕ, max, ◌≤◌}
use Rattle.std.proofs.Common.{arith}
use Rattle.theory.specs.Expression.{PathExpr, NodeExpr, stay, step, test, seq, union, neg, conj, disj, exists, compare}
use Rattle.theory.specs.Bound.{WithinPath, Within, ml_path, ml}

-- two parts that each keep to the bound, against the larger of their maximum lengths
both_iff : {A B : Type 0} {m n c : ℕ} → A ↔ (m ≤ c) → B ↔ (n ≤ c) → (A × B) ↔ (max m n ≤ c)
both_iff f g = (λ (a, b). omega (arith, f.0 a, g.0 b), λ h. (f.1 (omega arith), g.1 (omega arith)))

mutual
  unfolding Within ml

  within_path_iff : (c : ℕ) (w : PathExpr) → WithinPath c w ↔ (ml_path w ≤ c)
  within_path_iff c stay = (λ _. omega arith, λ _. tt)
  within_path_iff c (step a) = (λ _. omega arith, λ _. tt)
  within_path_iff c (test q) = within_iff c q
  within_path_iff c (seq w v) = both_iff (within_path_iff c w) (within_path_iff c v)
  within_path_iff c (union w v) = both_iff (within_path_iff c w) (within_path_iff c v)

  pub within_iff : (c : ℕ) (q : NodeExpr) → Within c q ↔ (ml q ≤ c)
  within_iff c (neg q) = within_iff c q
  within_iff c (conj q p) = both_iff (within_iff c q) (within_iff c p)
  within_iff c (disj q p) = both_iff (within_iff c q) (within_iff c p)
  within_iff c (exists w) = within_path_iff c w
  within_iff c (compare t w v) = (
    λ (h, k, i, j). omega (arith, (within_path_iff c w).0 i, (within_path_iff c v).0 j),
    λ h. (omega arith, omega arith, (within_path_iff c w).1 (omega arith), (within_path_iff c v).1 (omega arith)),
  )
