-- Laws of the entries' expressions: what an appended entry changes, and that well-formed entries keep to their bound.
use mathlib.Core.List.{List, [], ◌∷◌, ◌++◌, append-nil, append_assoc}
use Rattle.std.specs.Prelude.{◌≡◌, ℕ, zero, suc, ◌+◌, ◌<◌, ◌≤◌, length, get_or, take, drop}
use Rattle.std.proofs.Math.Path.{refl, ap, ap₂}
use Rattle.std.proofs.Common.{sym, ◌∙◌, subst, arith, add-zero, zero-add, not-suc-le-zero, le_of_suc-le-suc, length-append, length-take-le}
use Rattle.std.proofs.Math.ListN.{get_or-append}
use Rattle.std.proofs.Math.Seq.{get_or-append_seam, split_at}
use Rattle.theory.specs.Graph.{same, differ}
use Rattle.theory.specs.Expression.{NodeExpr, step, test, seq, neg, conj, disj, exists, compare, always}
use Rattle.theory.specs.Bound.{len, Within, WithinPath}
use Rattle.sheet.specs.Entry.{Step, Entry, truth, negation, conjunction, disjunction, way, comparison, kind_of, named, spell_way, spell, extend, expressions, expression, tests, numbers, Short, Below, WellFormedEntry, WellFormedFrom, WellFormed}

-- ---- the parts of an entry

-- a not has one number, an and or or two
pub numbers_of_kind : (e : Entry) (i : ℕ) → i < kind_of e → i < 2 → kind_of e < 4 → i < length (numbers e)
unfolding kind_of numbers
numbers_of_kind truth i h k l = h
numbers_of_kind (negation j) i h k l = h
numbers_of_kind (conjunction j j') i h k l = k
numbers_of_kind (disjunction j j') i h k l = k
numbers_of_kind (way s) i h k l = absurd (omega arith)
numbers_of_kind (comparison same s s') i h k l = absurd (omega arith)
numbers_of_kind (comparison differ s s') i h k l = absurd (omega arith)

-- ---- one entry more

extend-append : (qs : List NodeExpr) (es fs : List Entry) → extend qs (es ++ fs) ≡ extend (extend qs es) fs
unfolding extend
extend-append qs [] fs = refl
extend-append qs (e ∷ es) fs = extend-append (qs ++ (spell qs e ∷ [])) es fs

length-extend : (qs : List NodeExpr) (es : List Entry) → length (extend qs es) ≡ length qs + length es
unfolding extend
length-extend qs [] = sym (add-zero _)
length-extend qs (e ∷ es) = omega (arith, length-extend (qs ++ (spell qs e ∷ [])) es, length-append qs (spell qs e ∷ []))

extend_front : (qs : List NodeExpr) (es : List Entry) → (more : List NodeExpr) × (extend qs es ≡ qs ++ more)
unfolding extend
extend_front qs [] = ([], rw append-nil)
extend_front qs (e ∷ es) =
    let (more, h) = extend_front (qs ++ (spell qs e ∷ [])) es in
    (spell qs e ∷ more, h ∙ append_assoc qs (spell qs e ∷ []) more)

pub expressions_snoc : (es : List Entry) (e : Entry) → expressions (es ++ (e ∷ [])) ≡ expressions es ++ (spell (expressions es) e ∷ [])
unfolding expressions extend
expressions_snoc es e = extend-append [] es (e ∷ [])

pub length-expressions : (es : List Entry) → length (expressions es) ≡ length es
unfolding expressions
length-expressions es = omega (arith, length-extend [] es)

-- the earlier expressions are as they were
pub expression_front : (es fs : List Entry) (i : ℕ) → i < length es → expression (es ++ fs) i ≡ expression es i
unfolding expressions
expression_front es fs i h =
    let (more, e) = extend_front (expressions es) fs in
    rw (extend-append, e) (get_or-append (expressions es) more always i (omega (arith, length-expressions es)))

-- the new one is what it spells
pub expression_last : (es : List Entry) (e : Entry) → expression (es ++ (e ∷ [])) (length es) ≡ spell (expressions es) e
expression_last es e = rw (expressions_snoc, ← length-expressions es) (get_or-append_seam (expressions es) (spell (expressions es) e) [] always)

-- ---- well-formed entries

pub well_formed_append : (v c n : ℕ) (es fs : List Entry) → WellFormedFrom v c n es → WellFormedFrom v c (n + length es) fs → WellFormedFrom v c n (es ++ fs)
unfolding WellFormedFrom
well_formed_append v c n [] fs h k = rw (← add-zero n) k
well_formed_append v c n (e ∷ es) fs h k =
    (h.0, well_formed_append v c (suc n) es fs h.1 (rw (let t : suc n + length es ≡ n + suc (length es) = omega arith in t) k))

pub well_formed_snoc : {v c : ℕ} {es : List Entry} → WellFormed v c es → (e : Entry) → WellFormedEntry v c (length es) e → WellFormed v c (es ++ (e ∷ []))
unfolding WellFormedFrom
well_formed_snoc {v} {c} {es} w e h = record { each = well_formed_append v c 0 es (e ∷ []) w.each (rw zero-add (h, tt)) }

well_formed_from_at : (v c n : ℕ) (es : List Entry) (i : ℕ) → WellFormedFrom v c n es → i < length es → WellFormedEntry v c (n + i) (get_or es i truth)
unfolding WellFormedFrom
well_formed_from_at v c n [] i f h = absurd (not-suc-le-zero h)
well_formed_from_at v c n (e ∷ es) zero f h = rw add-zero f.0
well_formed_from_at v c n (e ∷ es) (suc i) f h =
    rw (let t : n + suc i ≡ suc n + i = omega arith in t) (well_formed_from_at v c (suc n) es i f.1 (le_of_suc-le-suc h))

pub well_formed_at : {v c : ℕ} {es : List Entry} → WellFormed v c es → (i : ℕ) → i < length es → WellFormedEntry v c i (get_or es i truth)
well_formed_at {v} {c} {es} w i h = rw zero-add at (well_formed_from_at v c 0 es i w.each h)

-- ---- the bound

-- Every expression of the list, and what stands for one past its end, keeps to the bound.
abbrev Keeping : ℕ → List NodeExpr → Type 0
Keeping c qs = (i : ℕ) → Within c (named qs i)

spell-way-len : (qs : List NodeExpr) (ss : List Step) → len (spell_way qs ss) ≡ length ss
unfolding spell_way len
spell-way-len qs [] = refl
spell-way-len qs (s ∷ ss) = omega (arith, spell-way-len qs ss)

module _ (c : ℕ) (qs : List NodeExpr) (k : Keeping c qs) where
  spell-way_within : (ss : List Step) → WithinPath c (spell_way qs ss)
  unfolding spell_way Within
  spell-way_within [] = tt
  spell-way_within (s ∷ ss) = (tt, (k s.test, spell-way_within ss))

  spell_within : (v : ℕ) (e : Entry) → Short v c e → Within c (spell qs e)
  unfolding spell Within Short
  spell_within v truth h = tt
  spell_within v (negation i) h = k i
  spell_within v (conjunction i j) h = (k i, k j)
  spell_within v (disjunction i j) h = (k i, k j)
  spell_within v (way s) h = spell-way_within s
  spell_within v (comparison t s s') h = (rw spell-way-len h.0, rw spell-way-len h.1, spell-way_within s, spell-way_within s')

keeping_snoc : (c : ℕ) (qs : List NodeExpr) → Keeping c qs → (q : NodeExpr) → Within c q → Keeping c (qs ++ (q ∷ []))
keeping_snoc c [] k q w zero = w
keeping_snoc c [] k q w (suc i) = k 0
keeping_snoc c (p ∷ qs) k q w zero = k 0
keeping_snoc c (p ∷ qs) k q w (suc i) = keeping_snoc c qs (λ j. k (suc j)) q w i

extend_within : (v c n : ℕ) (qs : List NodeExpr) (es : List Entry) → Keeping c qs → WellFormedFrom v c n es → Keeping c (extend qs es)
unfolding extend WellFormedFrom
extend_within v c n qs [] k h = k
extend_within v c n qs (e ∷ es) k h =
    extend_within v c (suc n) (qs ++ (spell qs e ∷ [])) es (keeping_snoc c qs k (spell qs e) (spell_within c qs k v e h.0.short)) h.1

-- every expression of well-formed entries keeps to their bound
pub expression_within : {v c : ℕ} {es : List Entry} → WellFormed v c es → (i : ℕ) → Within c (expression es i)
unfolding expressions Within
expression_within {v} {c} {es} w = extend_within v c 0 [] es (λ i. tt) w.each

-- ---- an entry's question is the one it spells when every number in it is read as the question of the entry named

pub below-append : (n : ℕ) (is js : List ℕ) → Below n (is ++ js) → Below n is × Below n js
unfolding Below
below-append n [] js h = (tt, h)
below-append n (i ∷ is) js h = let (a, b) = below-append n is js h.1 in ((h.0, a), b)

pub below_both : (n : ℕ) (is js : List ℕ) → Below n is → Below n js → Below n (is ++ js)
unfolding Below
below_both n [] js h k = k
below_both n (i ∷ is) js h k = (h.0, below_both n is js h.1 k)

module _ (qs more : List NodeExpr) (n : ℕ) (k : n ≤ length qs) where
  same_named : (i : ℕ) → i < n → named (qs ++ more) i ≡ named qs i
  same_named i h = get_or-append qs more always i (omega arith)

  same_way : (ss : List Step) → Below n (tests ss) → spell_way (qs ++ more) ss ≡ spell_way qs ss
  unfolding Below tests spell_way
  same_way [] h = refl
  same_way (s ∷ ss) h = ap₂ (λ q w. seq (step s.label) (seq (test q) w)) (same_named s.test h.0) (same_way ss h.1)

  same_spell : (e : Entry) → Below n (numbers e) → spell (qs ++ more) e ≡ spell qs e
  unfolding Below numbers spell
  same_spell truth h = refl
  same_spell (negation i) h = ap neg (same_named i h.0)
  same_spell (conjunction i j) h = ap₂ conj (same_named i h.0) (same_named j h.1.0)
  same_spell (disjunction i j) h = ap₂ disj (same_named i h.0) (same_named j h.1.0)
  same_spell (way s) h = ap exists (same_way s h)
  same_spell (comparison t s s') h =
      let (a, b) = below-append n (tests s) (tests s') h in
      ap₂ (compare t) (same_way s a) (same_way s' b)

expression-between : (es : List Entry) (e : Entry) (fs : List Entry) → Below (length es) (numbers e)
    → expression (es ++ (e ∷ fs)) (length es) ≡ spell (expressions (es ++ (e ∷ fs))) e
unfolding expressions
expression-between es e fs h = here ∙ sym there
  where
    here : expression (es ++ (e ∷ fs)) (length es) ≡ spell (expressions es) e
    here = rw (← append_assoc es (e ∷ []) fs) (expression_front (es ++ (e ∷ [])) fs (length es) (simp length-append (omega arith)) ∙ expression_last es e)

    there : spell (expressions (es ++ (e ∷ fs))) e ≡ spell (expressions es) e
    there =
        let (more, p) = extend_front (expressions es) (e ∷ fs) in
        rw (extend-append, p) (same_spell (expressions es) more (length es) (omega (arith, length-expressions es)) e h)

pub expression_is : {v c : ℕ} {es : List Entry} → WellFormed v c es → (i : ℕ) → i < length es → expression es i ≡ spell (expressions es) (get_or es i truth)
expression_is {v} {c} {es} w i h = go (take i es) (drop (suc i) es) (split_at es i truth h) (length-take-le i es (omega arith))
  where
    go : (es₁ fs : List Entry) → es ≡ es₁ ++ (get_or es i truth ∷ fs) → length es₁ ≡ i → expression es i ≡ spell (expressions es) (get_or es i truth)
    go es₁ fs p q =
        subst (λ l. expression l i ≡ spell (expressions l) (get_or es i truth)) (sym p)
        (rw (← q) (expression-between es₁ (get_or es (length es₁) truth) fs (rw q (well_formed_at w i h).earlier)))
