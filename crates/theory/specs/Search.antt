-- Finite search: tests over the numbers below a bound and over a list.
use Rattle.std.specs.Prelude.{Bool, true, false, ◌&&◌, ◌||◌, List, [], ◌∷◌, ℕ, zero, suc}

-- p holds of some number below n
unfoldable pub any : ℕ → (ℕ → Bool) → Bool
any zero p = false
any (suc n) p = p n || any n p

module _ {A : Type 0} where
  -- p holds of every element
  unfoldable pub every : List A → (A → Bool) → Bool
  every [] p = true
  every (x ∷ xs) p = p x && every xs p

  -- f 0, f 1, .., f (n - 1)
  unfoldable pub list : ℕ → (ℕ → A) → List A
  list zero f = []
  list (suc n) f = f zero ∷ list n (λ i. f (suc i))
