-- Comparisons go by a value: widened sets fail as the sets do, nodes as those for which they stand in, and two tips fail whichever of them is the first.
use Rattle.std.specs.Prelude.{Bool, ◌≡◌, List, ◌↔◌, ℕ, ◌<◌, eqb}
use Rattle.std.proofs.Math.Bool.{true, false, So}
use Rattle.std.proofs.Math.Path.{refl, ap₂}
use Rattle.std.proofs.Common.{sym, ap, ◌∙◌, ⊎_elim, lt_of_le_of_lt, arith}
use borrow.Author.Tests.{eqb-true, eq-eqb}
use Rattle.std.specs.Int.Bits.{bit_and}
use Rattle.std.proofs.lemmas.Nat.{and_le_r}
use Rattle.theory.proofs.TestLaws.{never, any_iff, and_iff, test_eq}
use Rattle.words.specs.Words.{bit}
use Rattle.words.specs.Laws.{bit-and, bit-zero, zero_iff, word_of_ext}
use Rattle.search_links.specs.Sets.{spread, row_at, Valued, sharing, StandsIn, seen_as}
use Rattle.search_links.specs.Laws.{bit-spread, spread-lt}
use Rattle.search_pairs.specs.Pairs.{kind_of, failing, fault}
use Rattle.search_pairs.specs.Laws.{test_off, kind_fewer}

-- a set has no node in common with a union of rows
module _ (o : ℕ) (row : ℕ → ℕ) (w : ℕ) where
  apart_iff : (bit_and o (spread row w) ≡ 0) ↔ ((i j : ℕ) → i < 64 → j < 64 → So (bit w i) → So (bit (row i) j) → So (bit o j) → ⊥)
  apart_iff = (
    λ n i j li lj a b c.
        never
        (sym (bit-zero j) ∙ ap (λ (v : ℕ). bit v j) (sym n)
        ∙ bit-and o (spread row w) j
        ∙ (and_iff _ _).1 (c, bit-spread row w j lj ∙ (any_iff 64 _).1 (i, li, (and_iff _ _).1 (a, b)))),
    λ h.
        (zero_iff 64 _ (lt_of_le_of_lt (and_le_r o (spread row w)) (spread-lt row w))).1
        (λ j lj.
        test_off _
        (λ b.
        let (c, g) = (and_iff _ _).0 (sym (bit-and o (spread row w) j) ∙ b) in
        let (i, li, (a, r)) = simp (any_iff, and_iff) at (sym (bit-spread row w j lj) ∙ g) in
        h i j li lj a r c)),
  )

-- tests of two sets for 0 agree
zero-eq : (a b : ℕ) → (a ≡ 0 → b ≡ 0) → (b ≡ 0 → a ≡ 0) → eqb a 0 ≡ eqb b 0
zero-eq a b f g = test_eq _ _ (λ t. eq-eqb b 0 (f (eqb-true a 0 t))) (λ t. eq-eqb a 0 (g (eqb-true b 0 t)))

module _ (eb : List ℕ) (values : Valued eb) where
  -- the union of the rows of a widened set is that of the set
  spread-sharing : (t : ℕ) → t < 2 → (w : ℕ) → spread (row_at eb t) (sharing eb w) ≡ spread (row_at eb t) w
  unfolding spread
  spread-sharing t l w =
      word_of_ext 64 _ _ (λ y ly.
      test_eq _ _
      (λ e.
      let (i, li, (a, r)) = simp (any_iff, and_iff) at e in
      let (k, lk, (b, s)) = simp (any_iff, and_iff) at (sym (bit-spread (row_at eb 0) w i li) ∙ a) in
      (any_iff 64 _).1 (k, lk, (and_iff _ _).1 (b, values.alike t k i y l lk li s r)))
      (λ e.
      let (i, li, (a, r)) = simp (any_iff, and_iff) at e in
      let own = bit-spread (row_at eb 0) w i li ∙ (any_iff 64 _).1 (i, li, (and_iff _ _).1 (a, values.own t i y l li ly r)) in
      (any_iff 64 _).1 (i, li, (and_iff _ _).1 (own, r))))

  -- and a widened set has a node in common with a union of rows exactly where the set has
  apart_sharing : (t : ℕ) → t < 2 → (o w : ℕ) → eqb (bit_and (sharing eb o) (spread (row_at eb t) w)) 0 ≡ eqb (bit_and o (spread (row_at eb t) w)) 0
  apart_sharing t l o w =
      zero-eq _ _
      (λ n. (apart_iff o (row_at eb t) w).1 (λ i j li lj a r c.
      (apart_iff (sharing eb o) (row_at eb t) w).0 n i j li lj a r
      (bit-spread (row_at eb 0) o j lj ∙ (any_iff 64 _).1 (j, lj, (and_iff _ _).1 (c, values.own t j i l lj li (values.turned t i j l li lj r))))))
      (λ n. (apart_iff (sharing eb o) (row_at eb t) w).1 (λ i j li lj a r c.
      let (k, lk, (b, s)) = simp (any_iff, and_iff) at (sym (bit-spread (row_at eb 0) o j lj) ∙ c) in
      (apart_iff o (row_at eb t) w).0 n i k li lk a
      (values.turned t k i l lk li (values.alike t k j i l lk lj s (values.turned t i j l li lj r))) b))

  module _ (ea : List ℕ) (x w y o : ℕ) where
    failing_seen : (t : ℕ) → t < 2 → (a b : Bool) → failing ea eb t x (seen_as eb a w) y (seen_as eb b o) ≡ failing ea eb t x w y o
    unfolding failing seen_as
    failing_seen t l true true = rw (spread-sharing t l w, apart_sharing t l o w)
    failing_seen t l true false = rw (spread-sharing t l w)
    failing_seen t l false true = rw (apart_sharing t l o w)
    failing_seen t l false false = refl

    -- widened sets fail by the same kind
    pub fault_seen : (a b : Bool) → fault ea eb x (seen_as eb a w) y (seen_as eb b o) ≡ fault ea eb x w y o
    unfolding fault
    fault_seen a b = ap₂ kind_of (failing_seen 0 (omega arith) a b) (failing_seen 1 (omega arith) a b)

-- nodes fail as those do for which they stand in
module _ (ea : List ℕ) (va : Valued ea) (t : ℕ) (l : t < 2) where
  row-turned : (x y : ℕ) → x < 64 → y < 64 → bit (row_at ea t x) y ≡ bit (row_at ea t y) x
  row-turned x y lx ly = test_eq _ _ (va.turned t x y l lx ly) (va.turned t y x l ly lx)

  row_stands : (b : Bool) (x x' y : ℕ) → x < 64 → x' < 64 → StandsIn ea b x x' → bit (row_at ea t x') y ≡ bit (row_at ea t x) y
  row_stands b x x' y lx lx' s =
      ⊎_elim
      (λ q. rw q)
      (λ (_, r). test_eq _ _ (va.alike t x x' y l lx lx' r) (va.alike t x' x y l lx' lx (va.turned 0 x x' (omega arith) lx lx' r))) s

  rows_stand : (a b : Bool) (x x' y y' : ℕ) → x < 64 → x' < 64 → y < 64 → y' < 64 → StandsIn ea a x x' → StandsIn ea b y y'
      → bit (row_at ea t x') y' ≡ bit (row_at ea t x) y
  rows_stand a b x x' y y' lx lx' ly ly' s r =
      row_stands a x x' y' lx lx' s ∙ row-turned x y' lx ly' ∙ row_stands b y y' x ly ly' r ∙ row-turned y x ly lx

pub fault_stands : (ea eb : List ℕ) → Valued ea → (w o : ℕ) (a b : Bool) (x x' y y' : ℕ) → x < 64 → x' < 64 → y < 64 → y' < 64 → StandsIn ea a x x' → StandsIn ea b y y'
    → fault ea eb x' w y' o ≡ fault ea eb x w y o
unfolding fault failing
fault_stands ea eb va w o a b x x' y y' lx lx' ly ly' s r =
    rw (rows_stand ea va 0 (omega arith) a b x x' y y' lx lx' ly ly' s r, rows_stand ea va 1 (omega arith) a b x x' y y' lx lx' ly ly' s r)

-- two tips fail whichever is the first
module _ (ea eb : List ℕ) (va : Valued ea) (vb : Valued eb) (x w y o : ℕ) (lx : x < 64) (ly : y < 64) where
  failing-turned : (t : ℕ) → t < 2 → So (failing ea eb t x w y o) → So (failing ea eb t y o x w)
  unfolding failing
  failing-turned t l e =
      let (p, q) = (and_iff (bit (row_at ea t x) y) _).0 e in
      (and_iff _ _).1 (
        va.turned t x y l lx ly p,
        eq-eqb _ 0 ((apart_iff w (row_at eb t) o).1 (λ i j li lj a r c. (apart_iff o (row_at eb t) w).0 (eqb-true _ 0 q) j i lj li c (vb.turned t i j l li lj r) a)),
      )

  pub fault-turned : fault ea eb y o x w ≡ 0 → fault ea eb x w y o ≡ 0
  unfolding fault
  fault-turned e = kind_fewer _ _ _ _ e (failing-turned 0 (omega arith)) (failing-turned 1 (omega arith))
