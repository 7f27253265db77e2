-- The laws of covering: sets inside of each other, and the tips that a table covers; and the table with one tip.
use Rattle.std.specs.Prelude.{Bool, true, false, List, ◌⊎◌, ◌≡◌, refl, ℕ, ◌^◌, ◌≤◌, ◌<◌, eqb, length, get_or, set}
use Rattle.std.proofs.lemmas.Bool.{false≢true}
use Rattle.std.proofs.Common.{inl, inr, sym, ap, ◌∙◌, arith, eqb-true, eq-eqb, get_or-set_same}
use Rattle.words.specs.Words.{bit, Inside}
use Rattle.words.specs.Laws.{bit-pow}
use Rattle.search_tables.specs.Tips.{Has, Covered, Untouched}

-- numbers are equal or not
pub equal_or : (i j : ℕ) → (i ≡ j) ⊎ (i ≡ j → ⊥)
equal_or i j = by (eqb i j) refl
  where
    by : (b : Bool) → eqb i j ≡ b → (i ≡ j) ⊎ (i ≡ j → ⊥)
    by true e = inl (eqb-true i j e)
    by false e = inr (λ q. false≢true (sym e ∙ eq-eqb i j q))

-- a set is inside of itself, and of whatever holds a set that it is inside of
pub inside_refl : (a : ℕ) → Inside a a
inside_refl a = record { each = λ i t. t }

pub inside_trans : (a b c : ℕ) → Inside a b → Inside b c → Inside a c
inside_trans a b c f g = record { each = λ i t. g.each i (f.each i t) }

module _ (ls rs : List ℕ) (n : ℕ) where
  -- a tip that the table has is covered
  pub covered_by_has : (x w : ℕ) → Has ls rs n x w → Covered ls rs n x w
  covered_by_has x w h = record { word = w; has = h; inside = inside_refl w }

  -- and so is each tip with a wider set
  pub covered_wider : (x w w' : ℕ) → Covered ls rs n x w → Inside w w' → Covered ls rs n x w'
  covered_wider x w w' c i = record { word = c.word; has = c.has; inside = inside_trans c.word w w' c.inside i }

-- what a table covers, a table that covers all of its tips covers too
pub covered_trans : (ls rs : List ℕ) (n : ℕ) (ls' rs' : List ℕ) (n' : ℕ) → ((y o : ℕ) → Has ls rs n y o → Covered ls' rs' n' y o)
    → (x w : ℕ) → Covered ls rs n x w → Covered ls' rs' n' x w
covered_trans ls rs n ls' rs' n' f x w c = covered_wider ls' rs' n' x c.word w (f x c.word c.has) c.inside

-- ---- classes that are as they were
pub untouched_refl : (base : ℕ) (ls rs : List ℕ) → Untouched base ls rs ls rs
untouched_refl base ls rs = record { left = λ e l. refl; right = λ e l. refl }

module _ (base : ℕ) (ls rs ls' rs' : List ℕ) (u : Untouched base ls rs ls' rs') where
  pub untouched_trans : (ls'' rs'' : List ℕ) → Untouched base ls' rs' ls'' rs'' → Untouched base ls rs ls'' rs''
  untouched_trans ls'' rs'' u' = record { left = λ e l. u'.left e l ∙ u.left e l; right = λ e l. u'.right e l ∙ u.right e l }

  pub untouched_turn : Untouched base ls' rs' ls rs
  untouched_turn = record { left = λ e l. sym (u.left e l); right = λ e l. sym (u.right e l) }

  -- have the tips that they had
  pub untouched_has : (n : ℕ) → n ≤ base → (x w : ℕ) → Has ls rs n x w → Has ls' rs' n x w
  untouched_has n l x w h =
      let b : h.class < base = omega (arith, h.below) in
      record { class = h.class; below = h.below; cell = h.cell; inside = rw (u.left h.class b) h.inside; word = u.right h.class b ∙ h.word }

  pub untouched_covered : (n : ℕ) → n ≤ base → (x w : ℕ) → Covered ls rs n x w → Covered ls' rs' n x w
  untouched_covered n l x w c = record { word = c.word; has = untouched_has n l x c.word c.has; inside = c.inside }

-- a table has the tips of its first classes
pub has_more : (ls rs : List ℕ) (n n' : ℕ) → n ≤ n' → (x w : ℕ) → Has ls rs n x w → Has ls rs n' x w
has_more ls rs n n' l x w h = record { class = h.class; below = omega (arith, h.below); cell = h.cell; inside = h.inside; word = h.word }

-- the table with the one tip (x, w) has that tip and no other
module _ (ls rs : List ℕ) (x w a b : ℕ) (da : a ≡ 2 ^ x) (db : b ≡ w) (ll : length ls ≡ 64) (lr : length rs ≡ 64) where
  left_is : get_or (set ls 0 a) 0 0 ≡ 2 ^ x
  left_is = get_or-set_same ls 0 a 0 (omega arith) ∙ da

  right_is : get_or (set rs 0 b) 0 0 ≡ w
  right_is = get_or-set_same rs 0 b 0 (omega arith) ∙ db

  pub one_has : x < 64 → Has (set ls 0 a) (set rs 0 b) 1 x w
  one_has low = record {
    class = 0;
    below = omega arith;
    cell = low;
    inside = ap (λ (w : ℕ). bit w x) left_is ∙ bit-pow x x ∙ eq-eqb x x refl;
    word = right_is;
  }

  pub one_only : (x' w' : ℕ) → Has (set ls 0 a) (set rs 0 b) 1 x' w' → (x' ≡ x) × (w' ≡ w)
  one_only x' w' h =
      let z : h.class ≡ 0 = omega (arith, h.below) in (
        sym (eqb-true x x' (sym (bit-pow x x') ∙ ap (λ (v : ℕ). bit v x') (sym left_is) ∙ rw z at h.inside)),
        sym (rw z at h.word) ∙ right_is,
      )
