-- A sequence that goes down until it stands still: by which place it does, and that it stays there. With sums, as what goes down.
use Rattle.std.specs.Prelude.{Bool, true, false, ◌≡◌, refl, ◌⊎◌}
use Rattle.std.proofs.Math.Bool.{So}
use Rattle.std.proofs.Common.{sym, ap, ◌∙◌, not-suc-le-zero, eq-or-lt_of_le, le_of_suc-le-suc}
use Rattle.std.proofs.Math.Logic.{⊎_elim}
use Prim.Native.Nat.{ℕ, zero, suc, ◌+◌, ◌*◌, ◌≤◌, ◌<◌}
use Rattle.std.proofs.Math.Decide.{le_ind}
use native.Mathlib.Omega.{arith}
use Rattle.theory.proofs.TestLaws.{never}

-- f 0 + .. + f (n - 1)
unfoldable pub sum : ℕ → (ℕ → ℕ) → ℕ
sum zero f = 0
sum (suc n) f = f n + sum n f

pub sum_most : (n m : ℕ) (f : ℕ → ℕ) → ((i : ℕ) → f i ≤ m) → sum n f ≤ n * m
unfolding sum
sum_most zero m f h = omega arith
sum_most (suc n) m f h = omega (arith, h n, sum_most n m f h)

module _ (f g : ℕ → ℕ) (h : (i : ℕ) → f i ≤ g i) where
  pub sum-le : (n : ℕ) → sum n f ≤ sum n g
  unfolding sum
  sum-le zero = omega arith
  sum-le (suc n) = omega (arith, h n, sum-le n)

  -- a sum that is not less has no term that is
  pub sum-eq : (n : ℕ) → sum n g ≤ sum n f → (i : ℕ) → i < n → f i ≡ g i
  unfolding sum
  sum-eq zero e i k = absurd (not-suc-le-zero k)
  sum-eq (suc n) e i k =
      ⊎_elim (λ q. rw q (omega (arith, h n, sum-le n))) (sum-eq n (omega (arith, h n, sum-le n)) i) (eq-or-lt_of_le (le_of_suc-le-suc k))

-- A test as a number.
unfoldable pub bit : Bool → ℕ
bit true = 1
bit false = 0

pub bit_most : (a : Bool) → bit a ≤ 1
unfolding bit
bit_most true = omega arith
bit_most false = omega arith

pub bit_le : (a b : Bool) → (So a → So b) → bit a ≤ bit b
unfolding bit
bit_le true true h = omega arith
bit_le true false h = never (h refl)
bit_le false b h = omega arith

pub bit-eq : (a b : Bool) → bit a ≡ bit b → a ≡ b
unfolding bit
bit-eq true true e = refl
bit-eq true false e = absurd (omega arith)
bit-eq false true e = absurd (omega arith)
bit-eq false false e = refl

module _ {A : Type 0} (s : ℕ → A) (μ : A → ℕ) (down : (k : ℕ) → (s (suc k) ≡ s k) ⊎ (μ (s (suc k)) < μ (s k))) where
  still : (n k : ℕ) → μ (s k) ≤ n → (j : ℕ) × (j ≤ k + n) × (s (suc j) ≡ s j)
  still zero k h = ⊎_elim (λ e. (k, omega arith, e)) (λ i. absurd (omega arith)) (down k)
  still (suc n) k h =
      ⊎_elim (λ e. (k, omega arith, e)) (λ i. let t = still n (suc k) (omega arith) in (t.0, omega arith, t.2)) (down k)

  -- it stands still at a place no larger than what it can go down
  pub settles : (n : ℕ) → μ (s 0) ≤ n → (j : ℕ) × (j ≤ n) × (s (suc j) ≡ s j)
  settles n h = let t = still n 0 h in (t.0, omega arith, t.2)

  module _ (step : A → A) (next : (k : ℕ) → s (suc k) ≡ step (s k)) where
    -- where it has stood still it stays
    pub stays : (j : ℕ) → s (suc j) ≡ s j → (i : ℕ) → j ≤ i → s i ≡ s j
    stays j e = le_ind (λ i. s i ≡ s j) refl (λ i _ q. next i ∙ ap step q ∙ sym (next j) ∙ e)

    pub settles_by : (n : ℕ) → μ (s 0) ≤ n → (i : ℕ) → n ≤ i → s i ≡ s n
    settles_by n h i k = let t = settles n h in stays t.0 t.2 i (omega arith) ∙ sym (stays t.0 t.2 n t.1)
