-- The loop over single links.
use mathlib.Core.Path.{◌≡◌, sym, ◌∙◌}
use mathlib.Core.Logic.{⊎_elim}
use mathlib.Core.List.{List}
use Rattle.std.specs.Prelude.{Some, None}
use Prim.Native.Nat.{ℕ, ◌+◌, ◌^◌, ◌≤◌, ◌<◌}
use native.Mathlib.Nat.{eq-or-lt_of_le}
use native.Mathlib.Omega.{arith}
use Rattle.search_links.specs.Hops.{View, start_of, label_of, to_of}
use Rattle.search_steps.specs.Paths.{step_word}
use Rattle.search.specs.Lengths.{Unanswered, Single}

-- Each link before k has a counterpart.
pub record LinksTo (v u : View) (z : List ℕ) (x y k : ℕ) : Type 0 where
  pub each : (j : ℕ) → j < k → Unanswered v u z x y j → ⊥

module _ (v u : View) (z : List ℕ) (x y : ℕ) where
  module _ (k : ℕ) (h : LinksTo v u z x y k) where
    pub links_end : start_of v (x + 1) ≤ k → Single v u z x y None
    links_end l = record { found = λ j e. cc; before = λ j e. cc; none = λ _ j n. h.each j (omega (arith, n.leaves.until)) n }

    module _ (w a b r : ℕ) (dw : w ≡ 2 ^ y) (da : a ≡ label_of v k) (db : b ≡ to_of v k) (dr : r ≡ step_word u z w a b) where
      pub links_found : start_of v x ≤ k → k < start_of v (x + 1) → r ≡ 0 → Single v u z x y (Some k)
      links_found m l q = record {
        found = λ j e. let d : k ≡ j = cc in rw (← d) (record { leaves = record { from = m; until = l }; none = rw (dw, da, db) at (sym dr ∙ q) });
        before = λ j e. let d : k ≡ j = cc in rw (← d) h.each;
        none = λ e. cc;
      }

      pub links_next : (r ≡ 0 → ⊥) → LinksTo v u z x y (k + 1)
      links_next n = record {
        each = λ j l i. ⊎_elim (λ q. n (dr ∙ rw (dw, da, db, ← q) i.none)) (λ s. h.each j s i) (eq-or-lt_of_le (under j l));
      }
        where
          under : (j : ℕ) → j < k + 1 → j ≤ k
          under j m = omega arith
