-- What a kind says, and that whatever fails with a set fails with each set inside of it.
use Rattle.std.specs.Prelude.{Bool, true, false, ◌≡◌, refl, ◌⊎◌, List, ℕ, ◌^◌, ◌<◌}
use Rattle.std.proofs.Math.Bool.{So}
use Rattle.std.proofs.lemmas.Bool.{false≢true}
use Rattle.std.proofs.Common.{sym, ap, ◌∙◌, inl, inr, lt_of_le_of_lt, arith}
use borrow.Author.Tests.{eqb-true, eq-eqb}
use Rattle.std.specs.Int.Bits.{bit_and}
use Rattle.std.proofs.lemmas.Nat.{and_le_r}
use Rattle.theory.specs.Search.{any}
use Rattle.theory.proofs.TestLaws.{never, and_iff, any_iff, test_fails}
use Rattle.words.specs.Words.{bit, Inside}
use Rattle.words.specs.Laws.{bit-and, bit-zero, zero_iff}
use Rattle.search_links.specs.Sets.{spread, row_at}
use Rattle.search_links.specs.Laws.{spread-lt}
use Rattle.search_steps.specs.Laws.{spread_inside}
use Rattle.search_pairs.specs.Pairs.{kind_of, failing, fault}

-- a test that cannot pass
pub test_off : (b : Bool) → (So b → ⊥) → b ≡ false
test_off true f = absurd (f refl)
test_off false f = refl

-- a word that is not 0 has a node
pub some_node : (w : ℕ) → w < 2 ^ 64 → (w ≡ 0 → ⊥) → (y : ℕ) × (y < 64) × So (bit w y)
some_node w l n = by (any 64 (bit w)) refl
  where
    by : (e : Bool) → any 64 (bit w) ≡ e → (y : ℕ) × (y < 64) × So (bit w y)
    by true h = (any_iff 64 (bit w)).0 h
    by false h = absurd (n ((zero_iff 64 w l).1 (λ i m. test_off (bit w i) (λ e. false≢true (sym h ∙ (any_iff 64 (bit w)).1 (i, m, e))))))

pub kind_none : (a b : Bool) → kind_of a b ≡ 0 → (a ≡ false) × (b ≡ false)
unfolding kind_of
kind_none true b e = absurd (omega arith)
kind_none false true e = absurd (omega arith)
kind_none false false e = (refl, refl)

pub kind_some : (a b : Bool) → (kind_of a b ≡ 0 → ⊥) → ((kind_of a b ≡ 5) × So a) ⊎ ((kind_of a b ≡ 6) × (a ≡ false) × So b)
unfolding kind_of
kind_some true b f = inl (refl, refl)
kind_some false true f = inr (refl, refl, refl)
kind_some false false f = absurd (f refl)

-- what may be left out of a kind
pub kind_fewer : (p q p' q' : Bool) → kind_of p q ≡ 0 → (So p' → So p) → (So q' → So q) → kind_of p' q' ≡ 0
unfolding kind_of
kind_fewer p q true q' e f g = never (sym (kind_none p q e).0 ∙ f refl)
kind_fewer p q false true e f g = never (sym (kind_none p q e).1 ∙ g refl)
kind_fewer p q false false e f g = refl

module _ (ea eb : List ℕ) (x w w' y o o' : ℕ) (i : Inside w w') (j : Inside o o') where
  -- tips that cover two that fail, fail
  pub failing_inside : (t : ℕ) → So (failing ea eb t x w' y o') → So (failing ea eb t x w y o)
  unfolding failing
  failing_inside t e =
      let (p, q) = (and_iff (bit (row_at ea t x) y) _).0 e in
      (and_iff _ _).1 (p, eq-eqb _ 0 (apart (eqb-true _ 0 q)))
    where
      apart : bit_and o' (spread (row_at eb t) w') ≡ 0 → bit_and o (spread (row_at eb t) w) ≡ 0
      apart z =
          (zero_iff 64 _ (lt_of_le_of_lt (and_le_r o (spread (row_at eb t) w)) (spread-lt (row_at eb t) w))).1
          (λ k _.
          test_fails _ (bit (bit_and o' (spread (row_at eb t) w')) k)
          (λ b.
          let (h, g) = (and_iff _ _).0 (sym (bit-and o (spread (row_at eb t) w) k) ∙ b) in
          bit-and o' (spread (row_at eb t) w') k ∙ (and_iff _ _).1 (j.each k h, (spread_inside (row_at eb t) w w' i).each k g))
          (ap (λ (v : ℕ). bit v k) z ∙ bit-zero k))

  pub fault_inside : fault ea eb x w y o ≡ 0 → fault ea eb x w' y o' ≡ 0
  unfolding fault
  fault_inside e = kind_fewer _ _ _ _ e (failing_inside 0) (failing_inside 1)
