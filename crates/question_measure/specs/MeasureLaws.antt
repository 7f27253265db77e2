-- What is computed entry by entry is the measure of the entry's question.
use mathlib.Core.List.{List, [], ◌∷◌, ◌++◌}
use Rattle.std.specs.Prelude.{◌≡◌, ℕ, suc, ◌+◌, min, max, ◌<◌}
use Rattle.std.proofs.Math.Path.{refl, ap, ap₂}
use Rattle.std.proofs.Common.{◌∙◌, arith}
use Rattle.std.proofs.Math.ListN.{length, length-append}
use Rattle.theory.specs.Graph.{same, differ}
use Rattle.theory.specs.Expression.{NodeExpr}
use Rattle.sheet.specs.Entry.{Step, Entry, truth, negation, conjunction, disjunction, way, comparison, kind_of, first_way_lem, second_way, named, spell_way, spell, tests, numbers, Below}
use Rattle.sheet.specs.ExpressionLaws.{below-append}
use Rattle.sheet.specs.Sheet.{question_of}
use Rattle.text.specs.Text.{ascii, decimal}
use Rattle.question_measure.specs.Text.{sign_text, or_stay, steps_text, question_text, way_text, text_length, way_chain, chain}
use Rattle.question_measure.specs.Measures.{chain_cap, length_cap, measure, measured, beside, longer, referred, plain_by_lem, ways_by, steps_measure, way_measure, entry_measure}
use Rattle.question_measure.specs.Holds.{Holds}
use Rattle.question_measure.specs.declared.Measure.{Measure}

-- The chains and lengths of the first n expressions are listed.
pub record Listed (qs : List NodeExpr) (n : ℕ) (cs ls : List ℕ) : Type 0 where
  pub chains : Holds (λ i. min chain_cap (chain (named qs i))) n cs
  pub lengths : Holds (λ i. min length_cap (text_length (named qs i))) n ls

-- two parts with something between them and a byte at the end
pub parts-length : (us between vs : List ℕ) (end : ℕ) → length (us ++ (between ++ (vs ++ (end ∷ [])))) ≡ length us + length between + length vs + 1
parts-length us between vs end =
    omega (arith, length-append us (between ++ (vs ++ (end ∷ []))), length-append between (vs ++ (end ∷ [])), length-append vs (end ∷ []))

-- the limits, taken before or after
cap_sum : (c x y : ℕ) → min c (min c x + min c y) ≡ min c (x + y)
cap_sum c x y = omega arith

cap_more : (c x y : ℕ) → min c (min c x + y) ≡ min c (x + y)
cap_more c x y = omega arith

cap_max : (c x y : ℕ) → min c (max (min c x) (min c y)) ≡ min c (max x y)
cap_max c x y = omega arith

cap_suc : (c x : ℕ) → min c (suc (min c x)) ≡ min c (suc x)
cap_suc c x = omega arith

cap_cap : (c x : ℕ) → min c (min c x) ≡ min c x
cap_cap c x = omega arith

-- two measures are the same if both numbers are
same_measure : {a b c d : ℕ} → a ≡ b → c ≡ d → ◌≡◌ {A = Measure} (record { chain = a; length = c }) (record { chain = b; length = d })
same_measure p q = ap₂ (λ x y. record { chain = x; length = y }) p q

beside-measure : (c d n m : ℕ) → beside (measure c n) (measure d m) ≡ measure (max c d) (n + m)
beside-measure c d n m = same_measure (cap_max chain_cap c d) (cap_sum length_cap n m)

longer-measure : (c n m : ℕ) → longer (measure c n) m ≡ measure c (n + m)
longer-measure c n m = same_measure (cap_cap chain_cap c) (cap_more length_cap n m)

module _ (qs : List NodeExpr) (n : ℕ) (cs ls : List ℕ) (k : Listed qs n cs ls) where
  reference : (i : ℕ) → i < n → referred cs ls i ≡ measure (suc (chain (named qs i))) (text_length (named qs i))
  reference i h =
      same_measure (ap (λ x. min chain_cap (suc x)) (k.chains.each i h) ∙ cap_suc chain_cap (chain (named qs i)))
      (ap (min length_cap) (k.lengths.each i h) ∙ cap_cap length_cap (text_length (named qs i)))

  one_more : (i m : ℕ) → i < n → longer (referred cs ls i) m ≡ measure (suc (chain (named qs i))) (text_length (named qs i) + m)
  one_more i m h = ap (λ a. longer a m) (reference i h) ∙ longer-measure (suc (chain (named qs i))) (text_length (named qs i)) m

  two-more : (a b : Measure) (c d x y m : ℕ) → a ≡ measure c x → b ≡ measure d y → longer (beside a b) m ≡ measure (max c d) (x + y + m)
  two-more a b c d x y m p q = ap₂ (λ a b. longer (beside a b) m) p q ∙ ap (λ a. longer a m) (beside-measure c d x y) ∙ longer-measure (max c d) (x + y) m

  -- a way's steps
  steps-measured : (ss : List Step) → Below n (tests ss) → steps_measure cs ls ss ≡ measure (way_chain (spell_way qs ss)) (length (steps_text (spell_way qs ss)))
  unfolding steps_measure spell_way tests Below way_chain steps_text
  steps-measured [] h = refl
  steps-measured (s ∷ ss) h =
      let q = named qs s.test in
      let T = question_text q in
      let D = decimal s.label in
      let R = steps_text (spell_way qs ss) in
      ap₂ beside (one_more s.test (3 + length D) h.0) (steps-measured ss h.1)
      ∙ beside-measure (suc (chain q)) (way_chain (spell_way qs ss)) (length T + (3 + length D)) (length R)
      ∙ ap₂ measure (omega arith)
      (omega (arith, length-append (47 ∷ D) ((91 ∷ (T ++ (93 ∷ []))) ++ R), length-append (91 ∷ (T ++ (93 ∷ []))) R, length-append T (93 ∷ [])))

  -- a way
  way-measured : (ss : List Step) → Below n (tests ss) → way_measure cs ls ss ≡ measure (way_chain (spell_way qs ss)) (length (way_text (spell_way qs ss)))
  unfolding way_measure spell_way steps_text or_stay way_chain
  way-measured [] h = refl
  way-measured (s ∷ ss) h = steps-measured (s ∷ ss) h

  -- two parts with a byte between them and brackets around, and two ways with a sign between them
  two-measured : (between : List ℕ) (i j : ℕ) → i < n → j < n
      → longer (beside (referred cs ls i) (referred cs ls j)) (2 + length between)
      ≡ measure (max (suc (chain (named qs i))) (suc (chain (named qs j)))) (suc (length (question_text (named qs i) ++ (between ++ (question_text (named qs j) ++ ascii ")")))))
  two-measured between i j h l =
      two-more _ _ _ _ _ _ (2 + length between) (reference i h) (reference j l)
      ∙ ap (measure (max (suc (chain (named qs i))) (suc (chain (named qs j))))) (omega (arith, parts-length (question_text (named qs i)) between (question_text (named qs j)) 41))

  compared-measured : (between : List ℕ) (s s' : List Step) → Below n (tests s) → Below n (tests s')
      → longer (beside (way_measure cs ls s) (way_measure cs ls s')) (2 + length between)
      ≡ measure (max (way_chain (spell_way qs s)) (way_chain (spell_way qs s'))) (suc (length (way_text (spell_way qs s) ++ (between ++ (way_text (spell_way qs s') ++ ascii ">")))))
  compared-measured between s s' a b =
      two-more _ _ _ _ _ _ (2 + length between) (way-measured s a) (way-measured s' b)
      ∙ ap (measure (max (way_chain (spell_way qs s)) (way_chain (spell_way qs s')))) (omega (arith, parts-length (way_text (spell_way qs s)) between (way_text (spell_way qs s')) 62))

  -- an entry
  pub entry_measured : (e : Entry) → Below n (numbers e) → entry_measure cs ls e ≡ measured (spell qs e)
  unfolding entry_measure plain_by_lem ways_by kind_of numbers first_way_lem second_way spell chain question_text or_stay steps_text way_chain Below sign_text
  entry_measured truth h = refl
  entry_measured (negation i) h =
      one_more i 3 h.0 ∙ ap (measure (suc (chain (named qs i)))) (omega (arith, length-append (question_text (named qs i)) (41 ∷ [])))
  entry_measured (conjunction i j) h = two-measured (ascii "&") i j h.0 h.1.0
  entry_measured (disjunction i j) h = two-measured (ascii "|") i j h.0 h.1.0
  entry_measured (way s) h =
      let W = way_text (spell_way qs s) in
      ap (λ a. longer a 2) (way-measured s h) ∙ longer-measure (way_chain (spell_way qs s)) (length W) 2
      ∙ ap (measure (way_chain (spell_way qs s))) (omega (arith, length-append W (62 ∷ [])))
  entry_measured (comparison same s s') h = let (a, b) = below-append n (tests s) (tests s') h in compared-measured (ascii "=") s s' a b
  entry_measured (comparison differ s s') h = let (a, b) = below-append n (tests s) (tests s') h in compared-measured (ascii "!=") s s' a b

-- The chains and lengths of the first n questions of a sheet, each up to its limit.
pub record Measured (s : List ℕ) (n : ℕ) (cs ls : List ℕ) : Type 0 where
  pub chains : Holds (λ i. (measured (question_of s i)).chain) n cs
  pub lengths : Holds (λ i. (measured (question_of s i)).length) n ls
