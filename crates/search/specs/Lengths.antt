-- What the search for two paths without counterpart answers, for a range of lengths.
use Rattle.std.specs.Prelude.{◌≡◌, ◌⊎◌, List, ℕ, ◌+◌, ◌^◌, ◌≤◌, ◌<◌, Option, Some, None}
use Rattle.search_links.specs.Hops.{View, label_of, to_of, Ordered}
use Rattle.search_steps.specs.Paths.{Leaves, step_word}
use Rattle.search_pairs.specs.Pairs.{Couple, Clear, Shown}

-- What the search asks: two books' lists, a cell of each.
pub record Ready (v u : View) (x y : ℕ) : Type 0 where
  pub left : Ordered v
  pub right : Ordered u
  pub cell : x < 64
  pub partner : y < 64

-- The lengths that are looked at for a total: s in all, at most c each, the first path no longer than the second.
pub record Total (c s k l : ℕ) : Type 0 where
  pub all : k + l ≡ s
  pub order : k ≤ l
  pub most : l ≤ c

-- All that are looked at: at most c each, the first path no longer than the second.
pub record Most (c k l : ℕ) : Type 0 where
  pub order : k ≤ l
  pub most : l ≤ c

-- The lengths k and l are looked at before i and j: fewer in all, or as many and a shorter first path.
abbrev pub Sooner : ℕ → ℕ → ℕ → ℕ → Type 0
Sooner k l i j = (k + l < i + j) ⊎ ((k + l ≡ i + j) × (k < i))

-- The first two paths of lengths in a range that fail, or that there are none.
pub record Finding (v u : View) (z ea eb : List ℕ) (x y : ℕ) (R : ℕ → ℕ → Type 0) (r : Couple) : Type 0 where
  pub found : (r.kind ≡ 0 → ⊥)
      → (i j : ℕ) × R i j × Shown v u z ea eb x y i j r × ((k l : ℕ) → R k l → Sooner k l i j → Clear v u z ea eb x y k l)
  pub none : r.kind ≡ 0 → (i j : ℕ) → R i j → Clear v u z ea eb x y i j

-- Link k out of x has no counterpart from y.
pub record Unanswered (v u : View) (z : List ℕ) (x y k : ℕ) : Type 0 where
  pub leaves : Leaves v x k
  pub none : step_word u z (2 ^ y) (label_of v k) (to_of v k) ≡ 0

-- The first link without counterpart, or that there is none.
pub record Single (v u : View) (z : List ℕ) (x y : ℕ) (o : Option ℕ) : Type 0 where
  pub found : (k : ℕ) → o ≡ Some k → Unanswered v u z x y k
  pub before : (k : ℕ) → o ≡ Some k → (j : ℕ) → j < k → Unanswered v u z x y j → ⊥
  pub none : o ≡ None → (j : ℕ) → Unanswered v u z x y j → ⊥
