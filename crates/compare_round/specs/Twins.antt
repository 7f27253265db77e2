-- A row of the map that tells what another holds: rows that share a pair that stays are equal (theory, `RowLaws`).
use Rattle.std.specs.Prelude.{Bool, false, cond, List, ◌≡◌, ℕ, ◌<◌, ltb, Option, Some, None}
use Rattle.words.specs.Words.{first}
use Rattle.compare_laws.specs.Places.{placed, unparted}

-- The first row before row i whose place in column j holds 0, or i where there is none.
unfoldable pub first_row : ℕ → List ℕ → ℕ → ℕ → ℕ
first_row m map i j = first i (λ x. unparted m map x j)

-- Row x, where it is before row i.
abbrev pub earlier : ℕ → ℕ → Option ℕ
earlier i x = cond (ltb x i) (Some x) None

-- The twin of row i after column j, if `twin` was that before: the one known; else, where the place holds 0, the first row before that has 0 in the
-- column too; else none.
unfoldable pub twin_of : ℕ → List ℕ → ℕ → ℕ → Option ℕ → Option ℕ
twin_of m map i j (Some x) = Some x
twin_of m map i j None = cond (unparted m map i j) (earlier i (first_row m map i j)) None

-- There is a twin, and its place in column j holds 0.
abbrev pub shares : ℕ → List ℕ → Option ℕ → ℕ → Bool
shares m map (Some x) j = unparted m map x j
shares m map None j = false

-- A twin is a row before row i.
pub record Before (i : ℕ) (twin : Option ℕ) : Type 0 where
  pub row : (x : ℕ) → twin ≡ Some x → x < i

-- What holds of it before column j: it is a row before, and both have 0 in a column before j.
pub record Twin (m : ℕ) (map : List ℕ) (i j : ℕ) (twin : Option ℕ) : Type 0 where
  pub before : Before i twin
  pub shared : (x : ℕ) → twin ≡ Some x → (y : ℕ) × (y < j) × (placed m map i y ≡ 0) × (placed m map x y ≡ 0)
