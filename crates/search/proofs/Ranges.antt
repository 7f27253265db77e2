-- The ways out of the functions that go through the lengths.
use mathlib.Core.Bool.{Bool, true, false}
use mathlib.Core.Path.{◌≡◌, refl, sym, ◌∙◌}
use mathlib.Core.Logic.{inr, ⊎_elim}
use mathlib.Core.List.{List}
use Prim.Native.Nat.{ℕ, ◌+◌, ◌-◌, ◌/◌, ◌≤◌, ◌<◌}
use native.Mathlib.Nat.{eq-or-lt_of_le}
use native.Mathlib.Omega.{arith}
use Rattle.std.specs.Prelude.{Option, Some, None, is_some}
use Rattle.theory.proofs.TestLaws.{never}
use Rattle.search_links.specs.Hops.{View}
use Rattle.search_pairs.specs.declared.pair.Pair.{Pair}
use Rattle.search_pairs.specs.Pairs.{Couple, couple, Clear, Sought}
use Rattle.search_levels.specs.Depths.{Settled}
use Rattle.search.specs.Lengths.{Total, Most, Finding}

-- two paths that there are fail by a kind, and where there are none, by none
pub couple_some : (o : Option Pair) (b : Bool) → b ≡ is_some o → b ≡ true → (couple o).kind ≡ 0 → ⊥
couple_some (Some p) b d e q = omega (arith, p.compares)
couple_some None b d e q = never (sym d ∙ e)

pub couple_none : (o : Option Pair) (b : Bool) → b ≡ is_some o → b ≡ false → (couple o).kind ≡ 0
couple_none (Some p) b d e = never (sym e ∙ d)
couple_none None b d e = refl

-- a number that is at most i is i or is below it
under : (k i : ℕ) → k < i + 1 → k ≤ i
under k i m = omega arith

clear_at : (v u : View) (z ea eb : List ℕ) (x y k l i j : ℕ) → k ≡ i → l ≡ j → Clear v u z ea eb x y i j → Clear v u z ea eb x y k l
clear_at v u z ea eb x y k l i j d e c = rw (d, e) c

-- ---- the lengths of s in all whose first is below i
pub record LengthsTo (v u : View) (z ea eb : List ℕ) (x y c s i : ℕ) : Type 0 where
  pub each : (k l : ℕ) → Total c s k l → k < i → Clear v u z ea eb x y k l

module _ (v u : View) (z ea eb : List ℕ) (x y c s : ℕ) where
  module _ (i : ℕ) (h : LengthsTo v u z ea eb x y c s i) where
    pub lengths-next : (r : Couple) → Sought v u z ea eb x y i (s - i) r → r.kind ≡ 0 → LengthsTo v u z ea eb x y c s (i + 1)
    lengths-next r o n = record {
      each = λ k l w m. ⊎_elim
          (λ q. clear_at v u z ea eb x y k l i (s - i) q (omega (arith, w.all)) (o.none n))
          (λ b. h.each k l w b)
          (eq-or-lt_of_le (under k i m));
    }

    pub lengths-end : s / 2 < i → (r : Couple) → r.kind ≡ 0 → Finding v u z ea eb x y (Total c s) r
    lengths-end g r d = record { found = λ n. absurd (n d); none = λ _ k l w. h.each k l w (omega (arith, w.all, w.order)) }

    pub lengths_found : s - c ≤ i → i ≤ s / 2 → (r : Couple) → Sought v u z ea eb x y i (s - i) r → (r.kind ≡ 0 → ⊥) → Finding v u z ea eb x y (Total c s) r
    lengths_found lo hi r o n = record {
      found = λ _. (
        i,
        s - i,
        record { all = omega arith; order = omega arith; most = omega arith },
        o.found n,
        λ k l w. ⊎_elim (λ b. absurd (omega (arith, w.all))) (λ (_, b). h.each k l w b),
      );
      none = λ e. absurd (n e);
    }

-- ---- the lengths of less than s in all
module _ (v u : View) (z ea eb : List ℕ) (x y c : ℕ) where
  pub totals_start : Settled v u z ea eb x y c 0
  totals_start = record { each = λ k l a b m. absurd (omega arith) }

  module _ (s : ℕ) (h : Settled v u z ea eb x y c s) (r : Couple) where
    pub totals_next : Finding v u z ea eb x y (Total c s) r → r.kind ≡ 0 → Settled v u z ea eb x y c (s + 1)
    totals_next o n = record {
      each = λ k l a b m. ⊎_elim
          (λ q. o.none n k l (record { all = q; order = a; most = b }))
          (λ d. h.each k l a b d)
          (eq-or-lt_of_le (under (k + l) s m));
    }

    pub totals_end : c + c < s → r.kind ≡ 0 → Finding v u z ea eb x y (Most c) r
    totals_end g d = record { found = λ n. absurd (n d); none = λ _ k l w. h.each k l w.order w.most (omega (arith, w.order, w.most)) }

    pub totals_found : Finding v u z ea eb x y (Total c s) r → (r.kind ≡ 0 → ⊥) → Finding v u z ea eb x y (Most c) r
    totals_found o n =
        let (i, j, w, f, b) = o.found n in
        record {
          found = λ _. (
            i,
            j,
            record { order = w.order; most = w.most },
            f,
            λ k l m. ⊎_elim
                (λ e. h.each k l m.order m.most (omega (arith, w.all)))
                (λ (e, q). b k l (record { all = e ∙ w.all; order = m.order; most = m.most }) (inr (e, q))),
          );
          none = λ e. absurd (n e);
        }
