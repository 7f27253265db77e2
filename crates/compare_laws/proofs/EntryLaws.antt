-- The laws of the entries that a comparison writes: one entry more, and the entry that puts a reason.
use mathlib.Core.List.{List, [], ◌∷◌, ◌++◌}
use Rattle.std.specs.Prelude.{◌≡◌, get_or}
use Rattle.std.proofs.Math.Path.{refl, ap, ap₂}
use Rattle.std.proofs.Common.{◌∙◌, arith, length-append}
use Prim.Native.Nat.{ℕ, suc, ◌+◌, ◌*◌, ◌^◌, ◌<◌, ◌≤◌}
use Rattle.std.proofs.Math.Nat.{mul-le-mul_left}
use Rattle.std.proofs.Math.ListN.{length}
use Rattle.theory.specs.Graph.{Graph, WellFormed}
use Rattle.theory.specs.Expression.{NodeExpr, step, test, seq, always, exists, compare}
use Rattle.theory.specs.Path.{Path, Walk}
use Rattle.theory.proofs.WalkLaws.{linked_inside}
use Rattle.theory.specs.Bisimulation.{Relation}
use Rattle.theory.specs.Parting.{Reason, by_link, by_paths, Fails, path_expr, asked}
use Rattle.fields.specs.Label.{label_width}
use Rattle.sheet.specs.Entry.{Entry, truth, negation, conjunction, named, spell_way, spell, expressions, expression, tests, numbers, Short, Below, WellFormedFrom}
use Rattle.sheet.specs.ExpressionLaws.{below_both, expression_front, expression_is, well_formed_at, well_formed_snoc}
use Rattle.sheet.specs.Sheet.{most_bound, step_width}
use Rattle.sheet.specs.Encoding.{encode, step_labels, labels, Labelled}
use Rattle.sheet.specs.WrittenLaws.{size_of, length-encode_entry, encode_snoc, labelled_snoc}
use Rattle.compare_laws.specs.Comparison.{steps_along, reason_entry}
use Rattle.compare_laws.specs.Room.{reason_bytes}
use Rattle.compare_laws.specs.Entries.{Sheet, Fit, Grows, Narrow}

-- ---- one entry more

pub grows_refl : (es : List Entry) → Grows es es
grows_refl es = record { longer = omega arith; same = λ i h. refl }

pub grows_append : (es fs : List Entry) → Grows es (es ++ fs)
grows_append es fs = record { longer = simp length-append (omega arith); same = expression_front es fs }

pub grows_trans : {es es' es'' : List Entry} → Grows es es' → Grows es' es'' → Grows es es''
grows_trans g h = record { longer = omega arith; same = λ i k. h.same i (omega arith) ∙ g.same i k }

-- the sheet of always true alone
pub sheet_truth : (v c : ℕ) → Sheet v c (truth ∷ [])
unfolding WellFormedFrom Short numbers Below labels Labelled
sheet_truth v c =
    record {
      some = omega arith;
      formed = record { each = (record { first = λ _. refl; short = tt; earlier = tt }, tt) };
      labelled = (tt, tt);
    }

-- entry 0 is always true
pub expression-zero : {v c : ℕ} {es : List Entry} → Sheet v c es → expression es 0 ≡ always
unfolding spell
expression-zero {es = es} s =
    expression_is s.formed 0 s.some ∙ ap (spell (expressions es)) ((well_formed_at s.formed 0 s.some).first refl)

pub sheet_snoc : {v c : ℕ} {es : List Entry} → Sheet v c es → (e : Entry) → Fit v c (length es) e → Sheet v c (es ++ (e ∷ []))
unfolding Labelled
sheet_snoc {v} {es = es} s e f =
    record {
      some = simp length-append (omega arith);
      formed = well_formed_snoc s.formed e f.formed;
      labelled = labelled_snoc v es e s.labelled f.labelled;
    }

pub length_snoc : (es : List Entry) (e : Entry) → length (es ++ (e ∷ [])) ≡ suc (length es)
length_snoc es e = simp length-append (omega arith)

pub length-encode_snoc : (v : ℕ) (es : List Entry) (e : Entry) → length (encode v (es ++ (e ∷ []))) ≡ length (encode v es) + size_of v e
length-encode_snoc v es e = simp (encode_snoc, length-append, length-encode_entry)

pub fit_negation : {v c n i : ℕ} → i < n → Fit v c n (negation i)
unfolding Short numbers Below labels
fit_negation h = record { formed = record { first = λ e. absurd (omega arith); short = tt; earlier = (h, tt) }; labelled = tt }

pub fit_conjunction : {v c n i j : ℕ} → i < n → j < n → Fit v c n (conjunction i j)
unfolding Short numbers Below labels
fit_conjunction h k =
    record { formed = record { first = λ e. absurd (omega arith); short = tt; earlier = (h, (k, tt)) }; labelled = tt }

-- ---- the entry that puts a reason (`reason_entry`)

module _ (xs : List ℕ) where
  length-steps_along : (p : Path) → length (steps_along xs p) ≡ length p
  unfolding steps_along
  length-steps_along [] = refl
  length-steps_along (h ∷ p) = ap suc (length-steps_along p)

  module _ (qs : List NodeExpr) where
    spell_way-steps_along : (p : Path) → spell_way qs (steps_along xs p) ≡ path_expr (λ x. named qs (get_or xs x 0)) p
    unfolding spell_way steps_along path_expr
    spell_way-steps_along [] = refl
    spell_way-steps_along (h ∷ p) = ap (λ w. seq (step h.label) (seq (test (named qs (get_or xs h.to 0))) w)) (spell_way-steps_along p)

    -- it spells the expression that puts the reason
    pub spell-reason_entry : (why : Reason) → spell qs (reason_entry xs why) ≡ asked (λ x. named qs (get_or xs x 0)) why
    unfolding spell reason_entry asked
    spell-reason_entry (by_link h) = ap exists (spell_way-steps_along (h ∷ []))
    spell-reason_entry (by_paths t p q) = ap₂ (compare t) (spell_way-steps_along p) (spell_way-steps_along q)

  pub size_reason_entry : (v : ℕ) (l r : Graph) (c : ℕ) (z : Relation) (a b : ℕ) (why : Reason) → c ≤ most_bound → Fails l r c z a b why
      → size_of v (reason_entry xs why) ≤ reason_bytes v
  unfolding reason_entry size_of
  size_reason_entry v l r c z a b (by_link h) m f = omega (arith, ap (λ n. step_width v * n) (length-steps_along (h ∷ [])))
  size_reason_entry v l r c z a b (by_paths t p q) m f =
      let n : length (steps_along xs p) + length (steps_along xs q) ≤ most_bound + most_bound = omega (arith, length-steps_along p, length-steps_along q, f.short, f.short') in
      omega (arith, mul-le-mul_left (step_width v) n)

module _ {v : ℕ} {l : Graph} (w : WellFormed l) (narrow : Narrow v l) (n : ℕ) (xs : List ℕ) (some : 1 ≤ n) (earlier : (x : ℕ) → x < l.size → get_or xs x 0 < n) where
  steps_along-below : (p : Path) (x : ℕ) → Walk l x p → Below n (tests (steps_along xs p)) × Below (256 ^ label_width v) (step_labels (steps_along xs p))
  unfolding steps_along Walk Below tests step_labels
  steps_along-below [] x k = (tt, tt)
  steps_along-below (h ∷ p) x (e, k) =
      let (t, s) = steps_along-below p h.to k in
      ((earlier h.to (linked_inside w x h.label h.to e), t), (narrow.label x h.label h.to e, s))

  -- it may stand after the entries that describe the nodes
  pub fit_reason_entry : (r : Graph) (c : ℕ) (z : Relation) (a b : ℕ) (why : Reason) → Fails l r c z a b why → Fit v c n (reason_entry xs why)
  unfolding reason_entry Short numbers labels Walk
  fit_reason_entry r c z a b (by_link h) f =
      let (t, s) = steps_along-below (h ∷ []) a (f.there, tt) in
      record { formed = record { first = λ e. absurd (omega arith); short = rw length-steps_along (omega arith); earlier = t }; labelled = s }
  fit_reason_entry r c z a b (by_paths k p q) f =
      let (t, s) = steps_along-below p a f.walk in
      let (t', s') = steps_along-below q a f.walk' in
      record {
        formed = record {
          first = λ e. absurd (omega arith);
          short = (rw length-steps_along f.short, rw length-steps_along f.short');
          earlier = below_both _ _ _ t t';
        };
        labelled = below_both _ _ _ s s';
      }
