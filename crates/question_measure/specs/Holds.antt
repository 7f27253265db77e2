-- A list that is filled from the front with the values of a function.
use Rattle.std.specs.Prelude.{List, ◌≡◌, ℕ, ◌<◌, get_or}

-- The list holds f i at each place i below n.
pub record Holds (f : ℕ → ℕ) (n : ℕ) (l : List ℕ) : Type 0 where
  pub each : (i : ℕ) → i < n → get_or l i 0 ≡ f i
