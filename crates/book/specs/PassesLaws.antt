-- Which comparisons two recordings pass: the same from both sides, by what is compared of them, and to differ is to be heard and not the same.
use Rattle.std.specs.Prelude.{Bool, true, false, not, ◌&&◌, ◌≡◌, refl, ℕ, eqb}
use Rattle.std.proofs.Common.{ap, ◌∙◌, eqb-true, eq-eqb}
use Rattle.theory.proofs.TestLaws.{and_iff, eqb_turn}
use Rattle.theory.specs.Graph.{Comparison, same, differ, compared}
use Rattle.book.specs.BookGraph.{data_value, heard, passes}

-- a comparison of data values is the same from both sides
compared_symmetric : (value : ℕ → ℕ) (t : Comparison) (x y : ℕ) → compared value t x y ≡ true → compared value t y x ≡ true
unfolding compared
compared_symmetric value same x y e = eqb_turn (value y) (value x) ∙ e
compared_symmetric value differ x y e = ap not (eqb_turn (value y) (value x)) ∙ e

-- and goes by the values
compared_alike : (value : ℕ → ℕ) (t : Comparison) (x y z : ℕ) → compared value same x y ≡ true → compared value t y z ≡ true → compared value t x z ≡ true
unfolding compared
compared_alike value same x y z e f = rw (eqb-true (value x) (value y) e) f
compared_alike value differ x y z e f = rw (eqb-true (value x) (value y) e) f

-- so are those of two recordings, which ask besides that both are heard
pub passes_symmetric : (t : Comparison) (a b : ℕ) → passes t a b ≡ true → passes t b a ≡ true
unfolding passes
passes_symmetric t a b e = let ((h, k), p) = simp and_iff at e in simp and_iff ((k, h), compared_symmetric data_value t a b p)

pub passes_alike : (t : Comparison) (a b c : ℕ) → passes same a b ≡ true → passes t b c ≡ true → passes t a c ≡ true
unfolding passes
passes_alike t a b c e f =
    let ((h, _), p) = simp and_iff at e in
    let ((_, k), q) = simp and_iff at f in
    simp and_iff ((h, k), compared_alike data_value t a b c p q)

-- and a recording that passes some comparison is the same as itself
pub passes_own : (t : Comparison) (a b : ℕ) → passes t a b ≡ true → passes same a a ≡ true
unfolding passes compared
passes_own t a b e = let ((h, _), _) = simp and_iff at e in simp and_iff ((h, h), eq-eqb (data_value a) (data_value a) refl)

-- two differ that are each the same as itself and not as the other
pub passes_differ : (a b : ℕ) → passes differ a b ≡ (passes same a a && (passes same b b && not (passes same a b)))
unfolding passes compared
passes_differ a b =
    rw (eq-eqb (data_value a) (data_value a) refl, eq-eqb (data_value b) (data_value b) refl) (by (heard a) (heard b) (eqb (data_value a) (data_value b)))
  where
    by : (h k e : Bool) → ((h && k) && not e) ≡ (((h && h) && true) && (((k && k) && true) && not ((h && k) && e)))
    by true true true = refl
    by true true false = refl
    by true false e = refl
    by false k e = refl
