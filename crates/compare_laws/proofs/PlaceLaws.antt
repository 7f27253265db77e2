-- The laws of the map's places: each pair has one of its own, and what a number put there changes.
use Rattle.std.specs.Prelude.{Bool, true, false, cond, ◌&&◌, List, [], ◌∷◌, ◌⊎◌, ◌≢◌, ◌≡◌, ℕ, zero, suc, ◌+◌, ◌*◌, ◌/◌, ◌%◌, ◌<◌, ◌≤◌, eqb, length, get_or, set, replicate}
use Rattle.std.proofs.Math.Bool.{So}
use Rattle.std.proofs.Common.{inl, inr, ⊎_elim, sym, ap, ◌∙◌, arith, suc-mul, mul-zero, mul-le-mul_right, not-suc-le-zero, le_of_suc-le-suc, div-add-mod', mod-lt, ltb-true, lt-ltb, get_or-set_same, get_or-set_other, ext_get_or}
use Rattle.std.proofs.Math.Path.{refl}
use Rattle.std.proofs.Math.Decide.{ℕ_discrete}
use Rattle.std.proofs.lemmas.List.{length-replicate, get_or-replicate}
use Rattle.theory.specs.Bisimulation.{Relation}
use Rattle.theory.proofs.TestLaws.{le-or-lt, and_iff, length-list, list_at}
use Rattle.sheet.specs.Sheet.{most_entries, hidden_place}
use Rattle.compare_laws.specs.Places.{placed, start_at, start_map, unparted, among, zeros, nonzeros}

pub eq-or-ne : (a b : ℕ) → (a ≡ b) ⊎ (a ≢ b)
eq-or-ne a b = elim (ℕ_discrete a b) [ yes h ↦ inl h | no h ↦ inr h ]

-- ---- each pair has a place of its own

row-end : (m a x : ℕ) → a < x → a * m + m ≤ x * m
row-end m a x h = omega (arith, suc-mul a m, mul-le-mul_right m h)

pub place_below : (n m a b : ℕ) → a < n → b < m → a * m + b < n * m
place_below n m a b h i = omega (arith, row-end m a n h)

module _ (m a b x y : ℕ) (h : b < m) (i : y < m) (e : a * m + b ≡ x * m + y) where
  pub place_row : a ≡ x
  place_row =
      ⊎_elim (λ k. ⊎_elim (λ k'. omega arith) (λ k'. absurd (omega (arith, row-end m a x k'))) (le-or-lt x a)) (λ k. absurd (omega (arith, row-end m x a k))) (le-or-lt a x)

  pub place_column : b ≡ y
  place_column = omega (arith, ap (λ k. k * m) place_row)

-- the pair at a place
module _ (m a b : ℕ) (h : b < m) where
  pub place_over : (a * m + b) / m ≡ a
  place_over = place_row m ((a * m + b) / m) ((a * m + b) % m) a b (mod-lt (a * m + b) (omega arith)) h (div-add-mod' (a * m + b) m)

  pub place_under : (a * m + b) % m ≡ b
  place_under = place_column m ((a * m + b) / m) ((a * m + b) % m) a b (mod-lt (a * m + b) (omega arith)) h (div-add-mod' (a * m + b) m)

-- is one in range
module _ (n m p : ℕ) (h : p < n * m) where
  pub row_below : p / m < n
  row_below = ⊎_elim (λ k. absurd (omega (arith, mul-le-mul_right m k, div-add-mod' p m))) (λ k. k) (le-or-lt n (p / m))

  pub column_below : p % m < m
  column_below = mod-lt p (some m h)
    where
      some : (m : ℕ) → p < n * m → 0 < m
      some zero h = absurd (omega (arith, mul-zero n))
      some (suc m) h = omega arith

module _ (m : ℕ) (xs : List ℕ) (a b i : ℕ) where
  pub placed-set : a * m + b < length xs → placed m (set xs (a * m + b) i) a b ≡ i
  placed-set h = get_or-set_same xs (a * m + b) i 0 h

  pub placed-other : (x y : ℕ) → x * m + y ≢ a * m + b → placed m (set xs (a * m + b) i) x y ≡ placed m xs x y
  placed-other x y h = get_or-set_other xs (a * m + b) (x * m + y) i 0 h

-- ---- pairs among the nodes

module _ (n m : ℕ) (z : Relation) (a b : ℕ) where
  pub among_inside : So (among n m z a b) → (a < n) × (b < m)
  among_inside e = let (h, (i, _)) = simp and_iff at e in (ltb-true a n h, ltb-true b m i)

  pub among-at : a < n → b < m → among n m z a b ≡ z a b
  among-at h i = rw (lt-ltb a n h, lt-ltb b m i)

-- ---- the map before the first round

pub hidden_beyond : most_entries < hidden_place
hidden_beyond = omega arith

module _ (n m : ℕ) (f g : ℕ → Bool) where
  pub length_start : length (start_map n m f g) ≡ n * m
  unfolding start_map
  length_start = length-list (n * m) _

  -- place by place
  pub start-at : (p : ℕ) → p < n * m → get_or (start_map n m f g) p 0 ≡ start_at m f g p
  unfolding start_map
  start-at p h = list_at (n * m) _ p 0 h

  -- a list with these numbers is the map
  pub start_is : (xs : List ℕ) → length xs ≡ n * m → ((p : ℕ) → p < n * m → get_or xs p 0 ≡ start_at m f g p) → xs ≡ start_map n m f g
  start_is xs e h = ext_get_or 0 xs (start_map n m f g) (e ∙ sym length_start) (λ p i. h p (omega arith) ∙ sym (start-at p (omega arith)))

  -- and pair by pair
  module _ (a b : ℕ) (o : a < n) (u : b < m) where
    pub start_placed : placed m (start_map n m f g) a b ≡ cond (f a && g b) 0 hidden_place
    unfolding start_at
    start_placed = start-at (a * m + b) (place_below n m a b o u) ∙ rw (place_over m a b u, place_under m a b u) refl

    pub start_unparted : unparted m (start_map n m f g) a b ≡ (f a && g b)
    start_unparted = rw start_placed (by (f a && g b))
      where
        by : (e : Bool) → eqb (cond e 0 hidden_place) 0 ≡ e
        by true = refl
        by false = refl

-- where all nodes are shown it is all zeros
pub start_zeros : (n m : ℕ) → start_map n m (λ x. true) (λ y. true) ≡ replicate (n * m) 0
unfolding start_at
start_zeros n m = sym (start_is n m _ _ _ (length-replicate (n * m) 0) (λ p h. get_or-replicate (n * m) p 0 0 h))

-- ---- counts

pub zeros-nonzeros : (xs : List ℕ) → zeros xs + nonzeros xs ≡ length xs
unfolding zeros nonzeros
zeros-nonzeros [] = refl
zeros-nonzeros (zero ∷ xs) = omega (arith, zeros-nonzeros xs)
zeros-nonzeros (suc x ∷ xs) = omega (arith, zeros-nonzeros xs)

pub nonzeros_most : (xs : List ℕ) → nonzeros xs ≤ length xs
nonzeros_most xs = omega (arith, zeros-nonzeros xs)

-- a place that held 0 is given a number
pub nonzeros-set : (xs : List ℕ) (i v : ℕ) → i < length xs → get_or xs i 0 ≡ 0 → 0 < v → nonzeros (set xs i v) ≡ suc (nonzeros xs)
unfolding nonzeros
nonzeros-set [] i v h e p = absurd (not-suc-le-zero h)
nonzeros-set (zero ∷ xs) zero zero h e p = absurd (not-suc-le-zero p)
nonzeros-set (zero ∷ xs) zero (suc v) h e p = refl
nonzeros-set (suc x ∷ xs) zero v h e p = absurd (omega arith)
nonzeros-set (zero ∷ xs) (suc i) v h e p = nonzeros-set xs i v (le_of_suc-le-suc h) e p
nonzeros-set (suc x ∷ xs) (suc i) v h e p = ap suc (nonzeros-set xs i v (le_of_suc-le-suc h) e p)
