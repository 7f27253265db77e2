-- Refusals as numbers, 0 where there is none.
use Rattle.std.specs.Prelude.{cond, ℕ, eqb}

-- "The first that applies is given": a refusal, else what follows.
abbrev pub first_of : ℕ → ℕ → ℕ
first_of r rest = cond (eqb r 0) rest r
