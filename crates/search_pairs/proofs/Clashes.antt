-- What each turn and each way out of the functions over two tables shows. Every number that the code computed is a variable here, with what is
-- known of it, so that `search` finds it in a need's record.
use mathlib.Core.Bool.{Bool, true, false, So, not, ◌||◌}
use mathlib.Core.Path.{◌≡◌, refl, sym, ap, ◌∙◌}
use mathlib.Core.Logic.{inl, inr, ⊎_elim}
use mathlib.Core.List.{List, [], ◌∷◌}
use Prim.Native.Nat.{ℕ, zero, suc, ◌+◌, ◌≤◌, ◌<◌}
use native.Mathlib.Nat.{eq-or-lt_of_le, lt_of_le_of_lt}
use native.Mathlib.Numerals.{add-one}
use native.Mathlib.Omega.{arith}
use borrow.Author.Tests.{eqb-true, eq-eqb, ne_eqb}
use lib.Bits.{bit_and, and_le_l}
use lib.Dec.{eqb}
use lib.ListN.{length, get_or, take}
use Rattle.theory.proofs.TestLaws.{never, and_iff, or_iff, not_iff, any_iff}
use Rattle.words.specs.Words.{bit}
use Rattle.words.specs.Laws.{bit-and, bit-zero}
use Rattle.search_links.specs.Sets.{spread, row_at}
use Rattle.search_links.specs.Laws.{bit-spread, spread-lt}
use Rattle.search_tables.specs.Tips.{Has}
use Rattle.search_pairs.specs.declared.Wanted.{Wanted}
use Rattle.search_pairs.specs.declared.Route.{Route}
use Rattle.search_pairs.specs.Pairs.{kind_of, failing, fault, wanted_of, missing, unmet, clashing}
use Rattle.search_pairs.specs.Tails.{Prepended, Clash, Met}
use Rattle.search_pairs.specs.Laws.{some_node, kind_none}

-- ---- what a class asks
pub asks_are : (ea eb : List ℕ) (t l r e a : ℕ) → e ≡ spread (row_at ea t) l → a ≡ spread (row_at eb t) r
    → ◌≡◌ {A = Wanted} (record { ends = e; answers = a }) (wanted_of ea eb t l r)
unfolding wanted_of
asks_are ea eb t l r e a de da = rw (de, da)

pub misses_none : (n : Wanted) (l r m : ℕ) → m ≡ bit_and n.ends l → m ≡ 0 → false ≡ missing n l r
unfolding missing
misses_none n l r m d z = rw (← d, eq-eqb m 0 z)

pub misses_some : (n : Wanted) (l r m k : ℕ) → m ≡ bit_and n.ends l → (m ≡ 0 → ⊥) → k ≡ bit_and r n.answers → eqb k 0 ≡ missing n l r
unfolding missing
misses_some n l r m k d z e = rw (← d, ne_eqb m 0 z, e)

module _ (same differ : Wanted) (l r : ℕ) (b : Bool) (d : b ≡ missing same l r) where
  pub unmet_same : b ≡ true → true ≡ unmet same differ l r
  unfolding unmet
  unmet_same t = rw (← d, t)

  pub unmet_differ : b ≡ false → (c : Bool) → c ≡ missing differ l r → c ≡ unmet same differ l r
  unfolding unmet
  unmet_differ f c e = rw (← d, f, ← e)

-- ---- two tips
module _ (ea eb : List ℕ) (t x w y o row : ℕ) (dr : row ≡ row_at ea t x) (b : Bool) (db : b ≡ bit row y) where
  pub fails_not : b ≡ false → false ≡ failing ea eb t x w y o
  unfolding failing
  fails_not f = rw (← dr, ← db, f)

  pub fails_where : b ≡ true → (s m : ℕ) → s ≡ spread (row_at eb t) w → m ≡ bit_and o s → eqb m 0 ≡ failing ea eb t x w y o
  unfolding failing
  fails_where f s m ds dm = rw (← dr, ← db, f, dm, ds)

module _ (ea eb : List ℕ) (x w y o : ℕ) (b : Bool) (d : b ≡ failing ea eb 0 x w y o) where
  pub kind_same : b ≡ true → 5 ≡ fault ea eb x w y o
  unfolding fault kind_of
  kind_same t = rw (← d, t)

  module _ (f : b ≡ false) (c : Bool) (e : c ≡ failing ea eb 1 x w y o) where
    pub kind_differ : c ≡ true → 6 ≡ fault ea eb x w y o
    unfolding fault kind_of
    kind_differ t = rw (← d, f, ← e, t)

    pub kind_neither : c ≡ false → 0 ≡ fault ea eb x w y o
    unfolding fault kind_of
    kind_neither t = rw (← d, f, ← e, t)

-- ---- a class misses exactly where two of its tips and of the other's fail
module _ (ea eb : List ℕ) (t l w m o : ℕ) where
  missed_fails : So (missing (wanted_of ea eb t l w) m o) → (x y : ℕ) × (x < 64) × (y < 64) × So (bit l x) × So (bit m y) × So (failing ea eb t x w y o)
  unfolding failing missing wanted_of
  missed_fails e =
      let (n, q) = (and_iff (not (eqb (bit_and (spread (row_at ea t) l) m) 0)) _).0 e in
      let (y, ly, b) = some_node (bit_and (spread (row_at ea t) l) m) (lt_of_le_of_lt (and_le_l (spread (row_at ea t) l) m) (spread-lt (row_at ea t) l))
      (λ z. (not_iff _).0 n (eq-eqb _ 0 z)) in
      let (s, j) = (and_iff _ _).0 (sym (bit-and (spread (row_at ea t) l) m y) ∙ b) in
      let (x, lx, (i, p)) = simp (any_iff, and_iff) at (sym (bit-spread (row_at ea t) l y ly) ∙ s) in
      (x, y, lx, ly, i, j, (and_iff _ _).1 (p, q))

  fails_missed : (x y : ℕ) → x < 64 → y < 64 → So (bit l x) → So (bit m y) → So (failing ea eb t x w y o) → So (missing (wanted_of ea eb t l w) m o)
  unfolding failing missing wanted_of
  fails_missed x y lx ly i j e =
      let (p, q) = (and_iff _ _).0 e in
      (and_iff _ _).1 ((not_iff _).1 (λ z. never (sym (bit-zero y) ∙ ap (λ (k : ℕ). bit k y) (sym (eqb-true _ 0 z)) ∙ both p)), q)
    where
      both : So (bit (row_at ea t x) y) → So (bit (bit_and (spread (row_at ea t) l) m) y)
      both p =
          bit-and (spread (row_at ea t) l) m y
          ∙ (and_iff _ _).1 (bit-spread (row_at ea t) l y ly ∙ (any_iff 64 _).1 (x, lx, (and_iff _ _).1 (i, p)), j)

-- what fails by no comparison
neither : (p q p' q' : Bool) → (p || q) ≡ false → (So p' → So p) → (So q' → So q) → kind_of p' q' ≡ 0
unfolding kind_of
neither p q true q' e f g = never (sym e ∙ (or_iff p q).1 (inl (f refl)))
neither p q false true e f g = never (sym e ∙ (or_iff p q).1 (inr (g refl)))
neither p q false false e f g = refl

-- ---- the loops over two tables
at_most : (n j : ℕ) → j < n + 1 → j ≤ n
at_most n j m = omega arith

module _ (ea eb pl pr ql qr : List ℕ) where
  -- no class before p clashes with one of the qn
  pub record Rows (qn p : ℕ) : Type 0 where
    pub each : (i j : ℕ) → i < p → j < qn → clashing ea eb pl pr ql qr i j ≡ false

  -- class p clashes with none before q
  pub record Row (p q : ℕ) : Type 0 where
    pub each : (j : ℕ) → j < q → clashing ea eb pl pr ql qr p j ≡ false

  pub rows_start : (qn : ℕ) → Rows qn 0
  rows_start qn = record { each = λ i j l. absurd (omega arith) }

  pub row_start : (p : ℕ) → Row p 0
  row_start p = record { each = λ j l. absurd (omega arith) }

  pub rows_next : (p q : ℕ) → Row p q → (qn : ℕ) → Rows qn p → qn ≤ q → Rows qn (p + 1)
  rows_next p q r qn h l = record {
    each = λ i j a b. ⊎_elim (λ e. rw e (r.each j (omega arith))) (λ s. h.each i j s b) (eq-or-lt_of_le (at_most p i a));
  }

  module _ (p q : ℕ) (same differ : Wanted) (ds : same ≡ wanted_of ea eb 0 (get_or pl p 0) (get_or pr p 0))
      (dd : differ ≡ wanted_of ea eb 1 (get_or pl p 0) (get_or pr p 0)) (k : Bool) (dk : k ≡ unmet same differ (get_or ql q 0) (get_or qr q 0)) where
    clash_is : k ≡ clashing ea eb pl pr ql qr p q
    clash_is = dk ∙ rw (ds, dd)

    pub row_next : k ≡ false → Row p q → Row p (q + 1)
    row_next z r = record { each = λ j a. ⊎_elim (λ e. rw e (sym clash_is ∙ z)) (λ s. r.each j s) (eq-or-lt_of_le (at_most q j a)) }

    pub met_some : k ≡ true → (pn qn : ℕ) → p < pn → q < qn → Met ea eb pl pr pn ql qr qn k
    unfolding unmet fault
    met_some e pn qn lp lq = record { some = λ _. ⊎_elim (by 0 (λ x w y o f z. never (sym (kind_none _ _ z).0 ∙ f))) (by 1 (λ x w y o f z. never (sym (kind_none _ _ z).1 ∙ f))) ((or_iff _ _).0 (sym clash_is ∙ e)); none = λ f. never (sym f ∙ e) }
      where
        by : (t : ℕ) → ((x w y o : ℕ) → So (failing ea eb t x w y o) → fault ea eb x w y o ≡ 0 → ⊥)
            → So (missing (wanted_of ea eb t (get_or pl p 0) (get_or pr p 0)) (get_or ql q 0) (get_or qr q 0)) → Clash ea eb pl pr pn ql qr qn
        by t why f =
            let (x, y, lx, ly, i, j, g) = missed_fails ea eb t _ _ _ _ f in
            record {
              cell = x;
              word = get_or pr p 0;
              cell' = y;
              word' = get_or qr q 0;
              first = record { class = p; below = lp; cell = lx; inside = i; word = refl };
              second = record { class = q; below = lq; cell = ly; inside = j; word = refl };
              fails = why _ _ _ _ g;
            }

  pub met_none : (pn qn p : ℕ) → Rows qn p → pn ≤ p → (f : Bool) → f ≡ false → Met ea eb pl pr pn ql qr qn f
  unfolding unmet fault
  met_none pn qn p r l f d = record {
    some = λ e. never (sym d ∙ e);
    none = λ _ x w y o a b. neither _ _ _ _ (r.each a.class b.class (omega (arith, a.below)) b.below) (missed 0 a b) (missed 1 a b);
  }
    where
      missed : {x w y o : ℕ} (t : ℕ) (a : Has pl pr pn x w) (b : Has ql qr qn y o) → So (failing ea eb t x w y o)
          → So (missing (wanted_of ea eb t (get_or pl a.class 0) (get_or pr a.class 0)) (get_or ql b.class 0) (get_or qr b.class 0))
      missed t a b e = fails_missed ea eb t _ _ _ _ _ _ a.cell b.cell a.inside b.inside (rw (a.word, b.word) e)

-- ---- a link before a path
front : (links : List ℕ) (n : ℕ) → length links ≡ 4 → n < 4 → take n (get_or links 0 0 ∷ get_or links 1 0 ∷ get_or links 2 0 ∷ []) ≡ take n links
front (a ∷ b ∷ c ∷ links) zero h l = refl
front (a ∷ b ∷ c ∷ links) (suc zero) h l = refl
front (a ∷ b ∷ c ∷ links) (suc (suc zero)) h l = refl
front (a ∷ b ∷ c ∷ links) (suc (suc (suc zero))) h l = refl
front (a ∷ b ∷ c ∷ links) (suc (suc (suc (suc n)))) h l = absurd (omega arith)
front [] n h l = absurd (omega arith)
front (a ∷ []) n h l = absurd (omega arith)
front (a ∷ b ∷ []) n h l = absurd (omega arith)

pub prepended : (k : ℕ) (s r : Route) → s.len < 4 → r.len ≡ s.len + 1 → r.links ≡ k ∷ get_or s.links 0 0 ∷ get_or s.links 1 0 ∷ get_or s.links 2 0 ∷ []
    → Prepended k s r
prepended k s r l dn dl = record {
  long = dn;
  room = ap length dl;
  path = λ h. rw (dn, dl, add-one s.len) (ap (λ (ks : List ℕ). k ∷ ks) (front s.links s.len h l));
}
