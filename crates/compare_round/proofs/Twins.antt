-- What each turn and each way out of `first_row`, `twin_of`, `follows` and `stays` shows of the definitions of `specs/`, and what holds of a twin from one column
-- to the next.
use mathlib.Core.Bool.{Bool, true, false, cond, false≢true, ◌||◌}
use mathlib.Core.List.{List}
use mathlib.Core.Path.{◌≡◌, refl, sym, ◌∙◌}
use mathlib.Core.Logic.{◌≢◌}
use Prim.Native.Nat.{ℕ, ◌+◌, ◌*◌, ◌≤◌, ◌<◌}
use native.Mathlib.Nat.{le_refl, le_of_lt}
use native.Mathlib.Omega.{arith}
use borrow.Author.Tests.{eqb-true, eq-eqb, ne_eqb, ltb-true, lt-ltb, le-ltb}
use Rattle.std.specs.Prelude.{Option, Some, None, is_some}
use lib.Dec.{ltb}
use lib.ListN.{get_or}
use Rattle.words.specs.Words.{bit}
use Rattle.words.specs.Laws.{first_there, first-le, first_stop, first-end, first_next}
use Rattle.compare_laws.specs.Places.{placed, unparted}
use Rattle.compare_round.specs.declared.Live.{Live}
use Rattle.compare_round.specs.Idle.{idle_in}
use Rattle.compare_round.specs.Twins.{earlier, first_row, twin_of, Twin}

-- ---- the first row that has 0 in the column
module _ (m : ℕ) (map : List ℕ) (i j x : ℕ) (k : x ≤ first_row m map i j) where
  pub first-row_stop : x < i → get_or map (x * m + j) 0 ≡ 0 → Some x ≡ earlier i (first_row m map i j)
  unfolding first_row
  first-row_stop h z = rw (← first_stop i (λ y. unparted m map y j) x k (eq-eqb _ 0 z), lt-ltb x i h)

  pub first-row-end : i ≤ x → None ≡ earlier i (first_row m map i j)
  unfolding first_row
  first-row-end h = rw (← first-end i (λ y. unparted m map y j) x k h, le-ltb x i h)

  pub first-row-next : x < i → get_or map (x * m + j) 0 ≢ 0 → x + 1 ≤ first_row m map i j
  unfolding first_row
  first-row-next h f = first_next i (λ y. unparted m map y j) x k h (ne_eqb _ 0 f)

-- ---- the twin after a column
module _ (m : ℕ) (map : List ℕ) (i j : ℕ) (twin : Option ℕ) where
  pub twin_known : (b : Bool) → b ≡ is_some twin → b ≡ true → twin ≡ twin_of m map i j twin
  unfolding twin_of
  twin_known b d e = go twin (sym d ∙ e)
    where
      go : (t : Option ℕ) → is_some t ≡ true → t ≡ twin_of m map i j t
      go None h = absurd (false≢true h)
      go (Some x) h = refl

  module _ (b : Bool) (d : b ≡ is_some twin) (e : b ≡ false) where
    none : twin ≡ None
    none = go twin (sym d ∙ e)
      where
        go : (t : Option ℕ) → is_some t ≡ false → t ≡ None
        go None h = refl
        go (Some x) h = absurd (false≢true (sym h))

    pub twin_found : (r : Option ℕ) → get_or map (i * m + j) 0 ≡ 0 → r ≡ earlier i (first_row m map i j) → r ≡ twin_of m map i j twin
    unfolding twin_of
    twin_found r z f = rw (none, z) f

    pub twin_none : get_or map (i * m + j) 0 ≢ 0 → None ≡ twin_of m map i j twin
    unfolding twin_of
    twin_none f = rw (none, ne_eqb (get_or map (i * m + j) 0) 0 f)

-- ---- whether a pair stays, by the cells to be looked at or else
module _ (live : Live) (i j : ℕ) (other a : Bool) (d : a ≡ bit live.left i) where
  pub stays_left : a ≡ false → true ≡ (idle_in live i j || other)
  unfolding idle_in
  stays_left e = rw (← d, e)

  module _ (f : a ≡ true) (b : Bool) (d' : b ≡ bit live.right j) where
    pub stays_right : b ≡ false → true ≡ (idle_in live i j || other)
    unfolding idle_in
    stays_right e = rw (← d, ← d', f, e)

    pub stays_else : b ≡ true → (r : Bool) → r ≡ other → r ≡ (idle_in live i j || other)
    unfolding idle_in
    stays_else e r k = rw (← d, ← d', f, e) k

-- ---- from column to column
module _ {m : ℕ} {map : List ℕ} {i j : ℕ} {twin : Option ℕ} (t : Twin m map i j twin) where
  -- a column on
  pub twin_next : Twin m map i (j + 1) (twin_of m map i j twin)
  unfolding twin_of first_row
  twin_next = known twin refl
    where
      found : (b : Bool) → ltb (first_row m map i j) i ≡ b → unparted m map i j ≡ true → Twin m map i (j + 1) (cond b (Some (first_row m map i j)) None)
      found true l e =
          let h = ltb-true (first_row m map i j) i l in
          record {
            before = record { row = λ x d. let k : first_row m map i j ≡ x = cc in rw k at h };
            shared = λ x d. let k : first_row m map i j ≡ x = cc in
                (j, omega arith, eqb-true _ 0 e, rw k at (eqb-true _ 0 (first_there i (λ x. unparted m map x j) h)));
          }
      found false l e = record { before = record { row = λ x d. absurd (cc) }; shared = λ x d. absurd (cc) }

      new : (q : Bool) → unparted m map i j ≡ q → Twin m map i (j + 1) (cond q (earlier i (first_row m map i j)) None)
      new true e = found (ltb (first_row m map i j) i) refl e
      new false e = record { before = record { row = λ x d. absurd (cc) }; shared = λ x d. absurd (cc) }

      known : (o : Option ℕ) → twin ≡ o → Twin m map i (j + 1) (twin_of m map i j o)
      known None e = new (unparted m map i j) refl
      known (Some a) e =
          record {
            before = record { row = λ x d. t.before.row x (e ∙ d) };
            shared = λ x d. let (y, l, z, z') = t.shared x (e ∙ d) in (y, omega arith, z, z');
          }

  -- in a map that has 0 wherever this one has, in the columns passed
  pub twin_still : (map' : List ℕ) → ((x y : ℕ) → x ≤ i → y < j → placed m map x y ≡ 0 → placed m map' x y ≡ 0) → Twin m map' i j twin
  twin_still map' f =
      record {
        before = t.before;
        shared = λ x d. let (y, l, z, z') = t.shared x d in (y, l, f i y (le_refl i) l z, f x y (le_of_lt (t.before.row x d)) l z');
      }
