-- Words as sets of cells: their bits, how many are set, which is the lowest, and the word of a test.
use Rattle.std.specs.Prelude.{◌≡◌, Bool, true, cond, not, ◌&&◌, ℕ, zero, suc, ◌+◌, ◌*◌, ◌/◌, ◌%◌, ◌^◌, ◌≤◌, ◌<◌, eqb}
use Rattle.std.specs.Int.Bits.{bit_xor}

-- 1 for true, 0 for false
abbrev pub digit : Bool → ℕ
digit b = cond b 1 0

-- bit i of w
unfoldable pub bit : ℕ → ℕ → Bool
bit w i = eqb (w / 2 ^ i % 2) 1

-- how many numbers below n the test holds of
unfoldable pub tally : ℕ → (ℕ → Bool) → ℕ
tally zero p = 0
tally (suc n) p = digit (p 0) + tally n (λ i. p (suc i))

-- the least number below n that the test holds of, or n where there is none
unfoldable pub first : ℕ → (ℕ → Bool) → ℕ
first zero p = 0
first (suc n) p = cond (p 0) 0 (suc (first n (λ i. p (suc i))))

-- the word of n bits whose bit i is set where the test holds of i
unfoldable pub word_of : ℕ → (ℕ → Bool) → ℕ
word_of zero p = 0
word_of (suc n) p = word_of n (λ i. p (suc i)) * 2 + digit (p 0)

-- r is the number of cells of w
pub record IsCount (w r : ℕ) : Type 0 where
  pub is : r ≡ tally 64 (bit w)
  pub small : r ≤ 64

-- r is the lowest cell of w
pub record IsLowest (w r : ℕ) : Type 0 where
  pub is : r ≡ first 64 (bit w)
  pub small : r < 64
  pub there : bit w r ≡ true

-- r is w without its cell i, and is less than w, so that a loop that takes cells away ends
pub record IsWithout (w i r : ℕ) : Type 0 where
  pub is : r ≡ bit_xor w (2 ^ i)
  pub less : r < w

-- every cell of a is one of b
pub record Inside (a b : ℕ) : Type 0 where
  pub each : (i : ℕ) → bit a i ≡ true → bit b i ≡ true

-- r is a without the cells of b, and is less than a where they have a common cell
pub record IsMinus (a b r : ℕ) : Type 0 where
  pub bits : (i : ℕ) → bit r i ≡ bit a i && not (bit b i)
  pub most : r ≤ a
  pub less : (i : ℕ) → bit a i ≡ true → bit b i ≡ true → r < a
