-- The word of an entry is that of its question.
use Rattle.std.proofs.Math.Bool.{Bool, xor, and-true, and_assoc}
use Rattle.std.specs.Prelude.{true, false, not, ◌&&◌, ◌||◌, ◌≡◌, refl, eqb, length, set}
use Rattle.std.proofs.Math.Path.{sym, ap, ap₂}
use Rattle.std.proofs.Common.{◌∙◌, add-zero, zero-add}
use mathlib.Core.List.{List, [], ◌∷◌}
use Prim.Native.Nat.{ℕ, zero, suc, ◌+◌, ◌^◌, ◌≤◌, ◌<◌}
use native.Mathlib.Omega.{arith}
use Rattle.std.specs.Int.Bits.{bit_and, bit_or, bit_xor}
use Rattle.std.proofs.lemmas.Nat.{xor_lt}
use Rattle.std.proofs.Math.Pow.{pow-lt}
use Rattle.theory.specs.Search.{any, list}
use Rattle.theory.proofs.TestLaws.{any_iff, any_ext, and_iff, test_eq, list_at}
use Rattle.theory.specs.Graph.{Comparison, Graph, linked, WellFormed}
use Rattle.theory.specs.Expression.{NodeExpr, neg, conj, disj, exists, compare, always}
use Rattle.theory.specs.Meaning.{reach, holds}
use Rattle.words.specs.Words.{word_of}
use Rattle.words.specs.Laws.{word_of_is, word_of_ext, word_of-lt, word_of-among, bit-word_of-lt, bit-pow, bit-xor, and-word_of, or-word_of}
use Rattle.sheet.specs.Entry.{Step, Entry, truth, negation, conjunction, disjunction, way, comparison, first_way_lem, second_way, named, spell_way, spell, expressions, tests, numbers, Below}
use Rattle.sheet.specs.Sheet.{count_of, entries_of, entry_at, entry_start, sheet_refusal}
use Rattle.sheet.proofs.AcceptedLaws.{well_formed_entry, entry_start-zero, entry_start-next, accepted_standing, accepted_question}
use Rattle.sheet.specs.ExpressionLaws.{below-append}
use Rattle.edges.specs.Edges.{Rows}
use Rattle.edges.specs.Laws.{preimage_is, gather_is, any-passes_is}
use Rattle.evaluate.specs.WritingLaws.{over, over-at, over-next}
use Rattle.evaluate.specs.WayLaws.{stays, reach_step, exists_step}
use Rattle.evaluate.specs.QuestionWord.{truth_word, question_word}
use Rattle.evaluate.specs.Evaluation.{Tables, forward, backward, rows_for, plain_word, way_word, end_rows, comparison_word, entry_word, evaluated_from, evaluated, TablesOf, Known}

-- ---- words of nodes
module _ {g : Graph} (formed : WellFormed g) (x a : ℕ) where
  -- a link leads to a node,
  to_node : (y : ℕ) (b : Bool) → (linked g x a y && (g.shown y && b)) ≡ (linked g x a y && b)
  to_node y b =
      test_eq _ _ (λ h. let (l, (_, t)) = simp and_iff at h in simp and_iff (l, t))
      (λ h. let (l, t) = simp and_iff at h in simp and_iff (l, ((formed.seen x a y l).1, t)))

  -- and from one
  from_node : (q : ℕ → Bool) → (g.shown x && any g.size (λ y. linked g x a y && q y)) ≡ any g.size (λ y. linked g x a y && q y)
  from_node q =
      test_eq _ _ (λ h. ((and_iff (g.shown x) _).0 h).1)
      (λ h. let (y, i, (l, t)) = simp (any_iff, and_iff) at h in (and_iff (g.shown x) _).1 ((formed.seen x a y l).0, h))

-- ---- expressions without ways
-- a set without another, and two sets, of some nodes
xor_within : (s b : Bool) → xor s (s && b) ≡ (s && not b)
unfolding xor
xor_within true true = refl
xor_within true false = refl
xor_within false b = refl

and_within : (s a b : Bool) → ((s && a) && (s && b)) ≡ (s && (a && b))
and_within true a b = refl
and_within false a b = refl

or_within : (s a b : Bool) → ((s && a) || (s && b)) ≡ (s && (a || b))
or_within true a b = refl
or_within false a b = refl

module _ (g : Graph) where
  -- the set of all nodes
  abbrev every : ℕ
  every = word_of g.size g.shown

  pub always_word : truth_word g always ≡ every
  unfolding spell_way
  always_word = word_of_ext g.size _ _ (λ x h. rw (stays g [] x h) (and-true (g.shown x)))

  pub neg_word : (q : NodeExpr) → truth_word g (neg q) ≡ bit_xor every (truth_word g q)
  unfolding holds
  neg_word q =
      let n = g.size in
      let w = truth_word g q in
      sym (word_of_is n (bit_xor every w) _ (xor_lt n every w (word_of-lt n _) (word_of-lt n _))
      (λ x h. bit-xor every w x ∙ ap₂ xor (bit-word_of-lt n g.shown x h) (bit-word_of-lt n (λ y. g.shown y && holds g q y) x h)
      ∙ xor_within (g.shown x) (holds g q x)))

  pub conj_word : (q p : NodeExpr) → truth_word g (conj q p) ≡ bit_and (truth_word g q) (truth_word g p)
  unfolding holds
  conj_word q p = sym (and-word_of g.size _ _ ∙ word_of_ext g.size _ _ (λ x h. and_within (g.shown x) (holds g q x) (holds g p x)))

  pub disj_word : (q p : NodeExpr) → truth_word g (disj q p) ≡ bit_or (truth_word g q) (truth_word g p)
  unfolding holds
  disj_word q p = sym (or-word_of g.size _ _ ∙ word_of_ext g.size _ _ (λ x h. or_within (g.shown x) (holds g q x) (holds g p x)))

module _ {g : Graph} {t : Tables} (o : TablesOf g t) {qs : List NodeExpr} {m : ℕ} {ws : List ℕ} (k : Known g qs m ws) where
  -- the nodes with a way
  way-word : (ss : List Step) → Below m (tests ss) → way_word t.every (backward t) ws ss ≡ truth_word g (exists (spell_way qs ss))
  unfolding way_word Below tests spell_way
  way-word [] b = rw o.every (sym (always_word g))
  way-word (s ∷ ss) b =
      let n = g.size in
      let p : ℕ → Bool = λ y. holds g (named qs s.test) y && holds g (exists (spell_way qs ss)) y in
      rw (way-word ss b.1, k.word s.test b.0, and-word_of)
      (preimage_is g t.count t.froms t.labels t.tos o.inside o.links s.label _
      ∙ word_of_ext n _ _
      (λ x h. any_ext n _ _ (λ y l. ap (λ (b : Bool). linked g x s.label y && b) (and_within (g.shown y) _ _) ∙ to_node o.formed x s.label y (p y))
      ∙ sym (ap (λ (b : Bool). g.shown x && b) (exists_step g qs s ss x) ∙ from_node o.formed x s.label p)))

  -- the ends of the ways
  way-rows : (ss : List Step) → Below m (tests ss) → Rows g.size (reach g (spell_way qs ss)) (end_rows (forward t) ws ss)
  unfolding end_rows Below tests spell_way reach
  way-rows [] b =
      record {
        row = λ x h. list_at 64 (λ y. 2 ^ y) x 0 (let f = o.few in omega arith) ∙ word_of_is g.size (2 ^ x) (eqb x) (pow-lt h) (λ y l. bit-pow x y);
      }
  way-rows (s ∷ ss) b =
      let n = g.size in
      let q = holds g (named qs s.test) in
      let r = reach g (spell_way qs ss) in
      let d = gather_is g t.count t.froms t.labels t.tos o.inside o.links s.label (λ y. g.shown y && q y) r
      (end_rows (forward t) ws ss) (way-rows ss b.1) 64 o.few in
      rw (k.word s.test b.0)
      (record {
        row = λ x h. d.row x h
            ∙ word_of_ext n _ _
            (λ z l. any_ext n _ _ (λ y i. ap (λ (b : Bool). linked g x s.label y && b) (and_assoc (g.shown y) (q y) (r y z)) ∙ to_node o.formed x s.label y (q y && r y z))
            ∙ sym (reach_step g qs s ss x z));
      })

  -- the nodes where two ends pass
  comparison-word : (c : Comparison) (ss ss' : List Step) → Below m (tests ss) → Below m (tests ss')
      → comparison_word t.every (rows_for t c) (end_rows (forward t) ws ss) (end_rows (forward t) ws ss')
      ≡ truth_word g (compare c (spell_way qs ss) (spell_way qs ss'))
  unfolding comparison_word holds
  comparison-word c ss ss' b b' =
      ap (λ (w : ℕ). comparison_word w (rows_for t c) (end_rows (forward t) ws ss) (end_rows (forward t) ws ss')) o.every
      ∙ word_of-among g.size 64 g.shown _ o.few
      ∙ word_of_ext g.size _ _
      (λ x h. ap (λ (b : Bool). g.shown x && b) (rw ((way-rows ss b).row x h, (way-rows ss' b').row x h)
      (any-passes_is g.size (reach g (spell_way qs ss) x) (reach g (spell_way qs ss') x) (g.ends c) (rows_for t c) o.few (o.rows c))))

  -- the word of an entry whose numbers are below m is that of the expression that it spells
  pub entry-word : (e : Entry) → Below m (numbers e) → entry_word t ws e ≡ truth_word g (spell qs e)
  unfolding entry_word plain_word Below numbers spell first_way_lem second_way
  entry-word truth b = rw o.every (sym (always_word g))
  entry-word (negation i) b = rw (o.every, k.word i b.0) (sym (neg_word g (named qs i)))
  entry-word (conjunction i j) b = rw (k.word i b.0, k.word j b.1.0) (sym (conj_word g (named qs i) (named qs j)))
  entry-word (disjunction i j) b = rw (k.word i b.0, k.word j b.1.0) (sym (disj_word g (named qs i) (named qs j)))
  entry-word (way ss) b = way-word ss b
  entry-word (comparison c ss ss') b = let (d, e) = below-append m (tests ss) (tests ss') b in comparison-word c ss ss' d e

-- ---- the words of an accepted sheet
module _ (g : Graph) (s : List ℕ) (good : sheet_refusal s ≡ 0) {t : Tables} (o : TablesOf g t) (ws : List ℕ) where
  -- word k is written behind those before it
  next-written : (k : ℕ) → k < count_of s → k < length ws
      → set (over k (question_word g s) ws) k (entry_word t (over k (question_word g s) ws) (entry_at s (entry_start s k))) ≡ over (k + 1) (question_word g s) ws
  next-written k h l =
      let known : Known g (expressions (entries_of s)) k (over k (question_word g s) ws) = record { word = over-at k (question_word g s) ws } in
      let w = well_formed_entry (accepted_standing s good k h) in
      let e = entry-word o known (entry_at s (entry_start s k)) w.earlier ∙ ap (truth_word g) (sym (accepted_question s good k h)) in
      rw e (over-next k (question_word g s) ws l)

  words_from : (left k : ℕ) → k + left ≤ count_of s → k + left ≤ length ws
      → evaluated_from t s k (entry_start s k) left (over k (question_word g s) ws) ≡ over (k + left) (question_word g s) ws
  unfolding evaluated_from
  words_from zero k h l = rw (add-zero k)
  words_from (suc left) k h l =
      rw (next-written k (omega arith) (omega arith), ← entry_start-next s k, (let q : k + suc left ≡ k + 1 + left = omega arith in q))
      (words_from left (k + 1) (omega arith) (omega arith))

  -- the first words are those of the questions, and the others stay
  pub words_evaluated : (upto : ℕ) → upto ≤ count_of s → upto ≤ length ws → evaluated t s upto ws ≡ over upto (question_word g s) ws
  unfolding list
  words_evaluated upto h l =
      ap (λ at. evaluated_from t s 0 at upto ws) (sym (entry_start-zero s)) ∙ words_from upto 0 (omega arith) (omega arith)
      ∙ ap (λ k. over k (question_word g s) ws) (zero-add upto)
