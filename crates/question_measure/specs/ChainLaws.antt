-- What a chain of references is in terms of a sheet's entries and the numbers in them.
use mathlib.Core.List.{List, [], ◌∷◌, ◌++◌}
use Rattle.std.specs.Prelude.{◌≡◌}
use Rattle.std.proofs.Math.Path.{refl, ap₂}
use Rattle.std.proofs.Common.{ap, ◌∙◌}
use Prim.Native.Nat.{ℕ, suc, max, ◌<◌}
use native.Mathlib.Omega.{arith}
use Rattle.theory.specs.Expression.{NodeExpr}
use Rattle.sheet.specs.Entry.{Step, Entry, truth, negation, conjunction, disjunction, way, comparison, named, spell_way, spell, tests, numbers}
use Rattle.sheet.specs.Sheet.{count_of, entry_at, entry_start, question_of, sheet_refusal}
use Rattle.sheet.proofs.AcceptedLaws.{accepted_question}
use Rattle.question_measure.specs.Text.{way_chain, chain}

-- One reference more than the longest of the chains f i, of the entries i that are named; none if none is named.
unfoldable pub longest : (ℕ → ℕ) → List ℕ → ℕ
longest f [] = 0
longest f (i ∷ is) = max (suc (f i)) (longest f is)

longest-append : (f : ℕ → ℕ) (is js : List ℕ) → longest f (is ++ js) ≡ max (longest f is) (longest f js)
unfolding longest
longest-append f [] js = omega arith
longest-append f (i ∷ is) js = omega (arith, longest-append f is js)

module _ (qs : List NodeExpr) where
  way-longest : (ss : List Step) → way_chain (spell_way qs ss) ≡ longest (λ i. chain (named qs i)) (tests ss)
  unfolding way_chain spell_way tests longest
  way-longest [] = refl
  way-longest (s ∷ ss) = omega (arith, way-longest ss)

  -- the chain of an entry's question leads through one of the numbers in it
  chain-spell : (e : Entry) → chain (spell qs e) ≡ longest (λ i. chain (named qs i)) (numbers e)
  unfolding chain way_chain spell numbers longest
  chain-spell truth = refl
  chain-spell (negation i) = omega arith
  chain-spell (conjunction i j) = omega arith
  chain-spell (disjunction i j) = omega arith
  chain-spell (way s) = way-longest s
  chain-spell (comparison t s s') = ap₂ max (way-longest s) (way-longest s') ∙ omega (arith, longest-append (λ i. chain (named qs i)) (tests s) (tests s'))

-- in a sheet: "a chain of references leads from the entry"
pub chain_entry : (s : List ℕ) → sheet_refusal s ≡ 0 → (k : ℕ) → k < count_of s
    → chain (question_of s k) ≡ longest (λ i. chain (question_of s i)) (numbers (entry_at s (entry_start s k)))
chain_entry s good k h = ap chain (accepted_question s good k h) ∙ chain-spell _ (entry_at s (entry_start s k))
