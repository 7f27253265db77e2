-- What each turn and the way out of `refine` shows of the definitions of `specs/`.
use mathlib.Core.Bool.{true, false≢true}
use mathlib.Core.Path.{◌≡◌, sym, ap, ◌∙◌}
use Prim.Native.Nat.{ℕ, suc, ◌<◌, ◌-◌, ◌^◌}
use native.Mathlib.Omega.{arith}
use lib.ListN.{length}
use Rattle.theory.specs.Bisimulation.{Relation}
use Rattle.words.specs.Words.{bit}
use Rattle.words.specs.Laws.{full_word_of, bit-word_of-lt}
use Rattle.compare_laws.specs.Setting.{Setting}
use Rattle.compare_laws.specs.Refining.{Comparable}
use Rattle.compare_laws.proofs.DefinedLaws.{state_refined}
use Rattle.compare_entries.specs.Growing.{Onward}
use Rattle.compare_entries.specs.GrowingLaws.{onward_none, onward-more}
use Rattle.compare_entries.specs.Parting.{Lists}
use Rattle.compare_pair.specs.declared.Sizes.{Sizes}
use Rattle.compare_pair.specs.Settling.{Chart, Ground, Idle, Standing}
use Rattle.compare_round.specs.Idle.{idle_in}
use Rattle.compare_rounds.specs.Turns.{no_pair, Opens, Turned, Refines}

-- Rounds were taken, and the next can begin.
pub record Going (l r : Chart) (z : Sizes) (x₀ : Lists) (idle : Relation) (x : Lists) : Type 0 where
  pub begun : Opens l r z no_pair x₀
  pub next : (s : Setting) (k : ℕ) → Ground s l r z → Standing s k 0 x₀ → (j : ℕ) × Idle s j idle × Standing s j 0 x
  pub onward : Onward x₀.room x.room x₀.pen.at x.pen.at

-- at first every pair is to be looked at
all_live : (all : ℕ) → all ≡ 2 ^ 64 - 1 → (s : Setting) (k : ℕ) → Comparable s → Idle s k (idle_in (record { left = all; right = all }))
unfolding idle_in
all_live all d s k g a b o u e h =
    absurd (false≢true (rw (full a (omega (arith, g.small.0)), full b (omega (arith, g.small.1))) at e))
  where
    full : (i : ℕ) → i < 64 → bit all i ≡ true
    full i l = ap (λ (w : ℕ). bit w i) (d ∙ full_word_of 64) ∙ bit-word_of-lt 64 (λ i. true) i l

module _ {l r : Chart} {z : Sizes} {x₀ : Lists} where
  pub going_none : Opens l r z no_pair x₀ → (all : ℕ) → all ≡ 2 ^ 64 - 1 → Going l r z x₀ (idle_in (record { left = all; right = all })) x₀
  going_none o all d = record { begun = o; next = λ s k g t. (k, all_live all d s k g.comparable, t); onward = onward_none x₀.room x₀.pen.at }

  module _ {idle : Relation} {x : Lists} (inv : Going l r z x₀ idle x) where
    pub going_opens : Opens l r z idle x
    going_opens =
        let o = inv.begun in
        let (j, f, t) = inv.next o.setting o.before o.ground o.standing in
        record { setting = o.setting; before = j; ground = o.ground; standing = t; known = f }

    -- the map is as long as it was
    pub going_places : length x.map ≡ length x₀.map
    going_places =
        let o = inv.begun in
        let (j, _, t) = inv.next o.setting o.before o.ground o.standing in
        ap length t.shows.places ∙ (state_refined o.ground.comparable j 0 (omega arith)).size
        ∙ sym (ap length o.standing.shows.places ∙ (state_refined o.ground.comparable o.before 0 (omega arith)).size)

    module _ {idle' : Relation} {x' : Lists} (t : Turned l r z idle idle' x x') where
      pub going_done : x'.pen.next ≡ x.pen.next → Refines l r z x₀ x'
      going_done e =
          record {
            finished = λ s k g u. let (j, f, v) = inv.next s k g u in t.last e s j g f v;
            onward = onward-more inv.onward t.onward;
          }

      pub going_more : Going l r z x₀ idle' x'
      going_more =
          record {
            begun = inv.begun;
            next = λ s k g u. let (j, f, v) = inv.next s k g u in let (v', f') = t.next s j g f v in (suc j, f', v');
            onward = onward-more inv.onward t.onward;
          }

      pub going_less : (x'.pen.next ≡ x.pen.next → ⊥) → 16386 - x'.pen.next < 16386 - x.pen.next
      going_less f = omega (arith, t.rising, t.few)
