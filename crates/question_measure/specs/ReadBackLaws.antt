-- A text read back is the question that was written: two entries of accepted sheets, of one or of two, that have one text have one question.
-- The argument: each reader undoes its writer, whatever follows the text. A number ends at the first byte that is no digit, a way's steps at the first
-- byte that is no slash, and every other construct at its closing byte; so by induction on the bytes that may still be read.
use Rattle.std.specs.Prelude.{Bool, true, false, ◌≡◌, eqb, ltb, length}
use mathlib.Core.List.{List, [], ◌∷◌, ◌++◌, append_assoc, append-nil}
use Rattle.std.proofs.Math.Path.{refl, ap}
use Rattle.std.proofs.Common.{sym, ◌∙◌, arith, le-ltb, ltb-true, ltb-false}
use Prim.Native.Nat.{ℕ, zero, suc, ◌+◌, ◌-◌, ◌*◌, ◌/◌, ◌%◌, ◌≤◌, ◌<◌}
use Rattle.std.proofs.Math.ListN.{length-append}
use Rattle.theory.specs.Graph.{same, differ}
use Rattle.theory.specs.Expression.{NodeExpr, neg, conj, disj, exists, compare, always}
use Rattle.sheet.specs.Entry.{Step, Entry, truth, negation, conjunction, disjunction, way, comparison, named, spell_way, spell, expressions, tests, numbers, Below}
use Rattle.sheet.specs.ExpressionLaws.{below-append}
use Rattle.sheet.specs.Sheet.{count_of, entries_of, entry_at, entry_start, question_of, sheet_refusal}
use Rattle.sheet.proofs.AcceptedLaws.{well_formed_entry, accepted_standing, accepted_question}
use Rattle.text.specs.Text.{digit, decimal}
use Rattle.text.specs.Laws.{decimal-one, decimal-more}
use Rattle.question_measure.specs.Text.{sign_text, or_stay, steps_text, question_text, way_text}
use Rattle.question_measure.specs.MeasureLaws.{parts-length}
use Rattle.question_measure.specs.ReadBack.{byte, read_number, read_steps, read_way, read_question, read_back_lem}

-- ---- numbers

digit_read : (n d : ℕ) (rest : List ℕ) → d < 10 → read_number n (digit d ∷ rest) ≡ read_number (n * 10 + d) rest
unfolding read_number
digit_read n d rest h = rw (le-ltb (48 + d) 48 (omega arith), le-ltb 57 (48 + d) (omega arith), let e : 48 + d - 48 ≡ d = omega arith in e)

digits_read : (m n : ℕ) (rest : List ℕ) → n ≤ m → read_number 0 (decimal n ++ rest) ≡ read_number n rest
digits_read zero n rest h = rw (decimal-one n (omega arith)) (digit_read 0 n rest (omega arith)) ∙ ap (λ k. read_number k rest) (let e : 0 * 10 + n ≡ n = omega arith in e)
digits_read (suc m) n rest h = go (ltb n 10) refl (λ l rest. digits_read m (n / 10) rest (omega arith))
  where
    go : (b : Bool) → ltb n 10 ≡ b → (10 ≤ n → (rest : List ℕ) → read_number 0 (decimal (n / 10) ++ rest) ≡ read_number (n / 10) rest)
        → read_number 0 (decimal n ++ rest) ≡ read_number n rest
    go true e f =
        let l = ltb-true n 10 e in
        rw (decimal-one n l) (digit_read 0 n rest l) ∙ ap (λ k. read_number k rest) (let e : 0 * 10 + n ≡ n = omega arith in e)
    go false e f =
        let l = ltb-false n 10 e in
        ap (λ t. read_number 0 (t ++ rest)) (decimal-more n l) ∙ ap (read_number 0) (append_assoc (decimal (n / 10)) (digit (n % 10) ∷ []) rest)
        ∙ f l (digit (n % 10) ∷ rest) ∙ digit_read (n / 10) (n % 10) rest (omega arith) ∙ ap (λ k. read_number k rest) (let e : n / 10 * 10 + n % 10 ≡ n = omega arith in e)

label_read : (n : ℕ) (rest : List ℕ) → read_number 0 (decimal n ++ (91 ∷ rest)) ≡ (n, 91 ∷ rest)
unfolding read_number
label_read n rest = digits_read n n (91 ∷ rest) (omega arith)

-- ---- ways, where the questions of the entries before n are read from at most `most` bytes

-- The reader undoes the writer of each of the first n questions that has at most `most` bytes.
record Reads (question : List ℕ → NodeExpr × List ℕ) (qs : List NodeExpr) (n most : ℕ) : Type 0 where
  each : (i : ℕ) → i < n → length (question_text (named qs i)) ≤ most → (rest : List ℕ) → question (question_text (named qs i) ++ rest) ≡ (named qs i, rest)

module _ (question : List ℕ → NodeExpr × List ℕ) (qs : List NodeExpr) (n most : ℕ) (r : Reads question qs n most) where
  -- a step and those behind it
  step_text : (s : Step) (ss : List Step) (rest : List ℕ)
      → steps_text (spell_way qs (s ∷ ss)) ++ rest
      ≡ 47 ∷ (decimal s.label ++ (91 ∷ (question_text (named qs s.test) ++ (93 ∷ (steps_text (spell_way qs ss) ++ rest)))))
  unfolding spell_way steps_text
  step_text s ss rest =
      let D = decimal s.label in
      let T = question_text (named qs s.test) in
      let R = steps_text (spell_way qs ss) in
      ap (λ l. 47 ∷ l)
      (append_assoc D ((91 ∷ (T ++ (93 ∷ []))) ++ R) rest
      ∙ ap (λ l. D ++ (91 ∷ l)) (append_assoc (T ++ (93 ∷ [])) R rest ∙ append_assoc T (93 ∷ []) (R ++ rest)))

  step-length : (s : Step) (ss : List Step)
      → length (steps_text (spell_way qs (s ∷ ss))) ≡ 3 + length (decimal s.label) + length (question_text (named qs s.test)) + length (steps_text (spell_way qs ss))
  unfolding spell_way steps_text
  step-length s ss =
      let D = decimal s.label in
      let T = question_text (named qs s.test) in
      let R = steps_text (spell_way qs ss) in
      omega (arith, length-append (47 ∷ D) ((91 ∷ (T ++ (93 ∷ []))) ++ R), length-append (91 ∷ (T ++ (93 ∷ []))) R, length-append T (93 ∷ []))

  steps_read : (ss : List Step) (m : ℕ) (rest : List ℕ) → Below n (tests ss) → length (steps_text (spell_way qs ss)) ≤ m → m ≤ most → eqb (byte rest) 47 ≡ false
      → read_steps question m (steps_text (spell_way qs ss) ++ rest) ≡ (spell_way qs ss, rest)
  unfolding read_steps spell_way steps_text tests Below
  steps_read [] zero rest b h k e = refl
  steps_read [] (suc m) rest b h k e = rw e
  steps_read (s ∷ ss) zero rest b h k e = absurd (omega (arith, step-length s ss))
  steps_read (s ∷ ss) (suc m) rest b h k e =
      let l = step-length s ss in
      rw (
        step_text s ss rest,
        label_read s.label (question_text (named qs s.test) ++ (93 ∷ (steps_text (spell_way qs ss) ++ rest))),
        r.each s.test b.0 (omega arith) (93 ∷ (steps_text (spell_way qs ss) ++ rest)),
        steps_read ss m rest b.1 (omega arith) (omega arith) e,
      )

  way_read : (ss : List Step) (rest : List ℕ) → Below n (tests ss) → length (way_text (spell_way qs ss)) ≤ most → eqb (byte rest) 47 ≡ false
      → read_way question most (way_text (spell_way qs ss) ++ rest) ≡ (spell_way qs ss, rest)
  unfolding read_way spell_way steps_text or_stay
  way_read [] rest b h e = refl
  way_read (s ∷ ss) rest b h e = steps_read (s ∷ ss) most rest b h (omega arith) e

-- ---- questions

-- two parts with something between them and a byte at the end
parts_text : (us between vs : List ℕ) (end : ℕ) (rest : List ℕ) → (us ++ (between ++ (vs ++ (end ∷ [])))) ++ rest ≡ us ++ (between ++ (vs ++ (end ∷ rest)))
parts_text us between vs end rest =
    append_assoc us (between ++ (vs ++ (end ∷ []))) rest ∙ ap (λ l. us ++ l) (append_assoc between (vs ++ (end ∷ [])) rest ∙ ap (λ l. between ++ l) (append_assoc vs (end ∷ []) rest))

module _ (most : ℕ) (qs : List NodeExpr) (n : ℕ) (r : Reads (read_question most) qs n most) where
  true_read : (rest : List ℕ) → read_question (suc most) (question_text always ++ rest) ≡ (always, rest)
  unfolding read_question read_way question_text steps_text or_stay
  true_read rest = refl

  -- a text of the table, and of a way
  T : ℕ → List ℕ
  T i = question_text (named qs i)

  W : List Step → List ℕ
  W ss = way_text (spell_way qs ss)

  first_read : (i : ℕ) (rest : List ℕ) → i < n → length (T i) ≤ most → read_question most (T i ++ rest) ≡ (named qs i, rest)
  unfolding T
  first_read i rest h l = r.each i h l rest

  first_way : (ss : List Step) (rest : List ℕ) → Below n (tests ss) → length (W ss) ≤ most → eqb (byte rest) 47 ≡ false
      → read_way (read_question most) most (W ss ++ rest) ≡ (spell_way qs ss, rest)
  unfolding W
  first_way ss rest b l e = way_read (read_question most) qs n most r ss rest b l e

  -- what an entry spells whose numbers are below n
  entry_read : (e : Entry) (rest : List ℕ) → Below n (numbers e) → length (question_text (spell qs e)) ≤ suc most
      → read_question (suc most) (question_text (spell qs e) ++ rest) ≡ (spell qs e, rest)
  unfolding read_question spell question_text sign_text numbers Below T W
  entry_read truth rest b h = true_read rest
  entry_read (negation i) rest b h =
      let l = length-append (T i) (41 ∷ []) in
      rw (append_assoc (T i) (41 ∷ []) rest, first_read i (41 ∷ rest) b.0 (omega arith))
  entry_read (conjunction i j) rest b h =
      let l = parts-length (T i) (38 ∷ []) (T j) 41 in
      rw (parts_text (T i) (38 ∷ []) (T j) 41 rest, first_read i (38 ∷ (T j ++ (41 ∷ rest))) b.0 (omega arith), first_read j (41 ∷ rest) b.1.0 (omega arith))
  entry_read (disjunction i j) rest b h =
      let l = parts-length (T i) (124 ∷ []) (T j) 41 in
      rw (parts_text (T i) (124 ∷ []) (T j) 41 rest, first_read i (124 ∷ (T j ++ (41 ∷ rest))) b.0 (omega arith), first_read j (41 ∷ rest) b.1.0 (omega arith))
  entry_read (way ss) rest b h =
      let l = length-append (W ss) (62 ∷ []) in
      rw (append_assoc (W ss) (62 ∷ []) rest, first_way ss (62 ∷ rest) b (omega arith) refl)
  entry_read (comparison same ss ss') rest b h =
      let (p, q) = below-append n (tests ss) (tests ss') b in
      let l = parts-length (W ss) (61 ∷ []) (W ss') 62 in
      rw (parts_text (W ss) (61 ∷ []) (W ss') 62 rest, first_way ss (61 ∷ (W ss' ++ (62 ∷ rest))) p (omega arith) refl, first_way ss' (62 ∷ rest) q (omega arith) refl)
  entry_read (comparison differ ss ss') rest b h =
      let (p, q) = below-append n (tests ss) (tests ss') b in
      let l = parts-length (W ss) (33 ∷ 61 ∷ []) (W ss') 62 in
      rw (parts_text (W ss) (33 ∷ 61 ∷ []) (W ss') 62 rest, first_way ss (33 ∷ 61 ∷ (W ss' ++ (62 ∷ rest))) p (omega arith) refl, first_way ss' (62 ∷ rest) q (omega arith) refl)

-- no text is empty
text_some : (q : NodeExpr) → 1 ≤ length (question_text q)
unfolding question_text
text_some (neg q) = omega arith
text_some (conj p q) = omega arith
text_some (disj p q) = omega arith
text_some (exists w) = omega arith
text_some (compare t w v) = omega arith

-- ---- a sheet

module _ (s : List ℕ) (good : sheet_refusal s ≡ 0) where
  question_read : (most k : ℕ) → k < count_of s → length (question_text (question_of s k)) ≤ most → (rest : List ℕ)
      → read_question most (question_text (question_of s k) ++ rest) ≡ (question_of s k, rest)
  question_read zero k h l rest = absurd (omega (arith, text_some (question_of s k)))
  question_read (suc most) k h l rest =
      let e = accepted_question s good k h in
      rw e
      (entry_read most (expressions (entries_of s)) k (record { each = λ i j m rest. question_read most i (omega arith) m rest }) (entry_at s (entry_start s k)) rest
      (well_formed_entry (accepted_standing s good k h)).earlier (rw (← e) l))

  -- the text of an entry read back is its question
  pub read_back : (k : ℕ) → k < count_of s → read_back_lem (question_text (question_of s k)) ≡ question_of s k
  read_back k h =
      let T = question_text (question_of s k) in
      ap (λ t. (read_question (length T) t).0) (sym (append-nil T)) ∙ ap (λ p. p.0) (question_read (length T) k h (omega arith) [])

-- entries of accepted sheets that have one text have one question
pub text_tells : (s t : List ℕ) → sheet_refusal s ≡ 0 → sheet_refusal t ≡ 0 → (k j : ℕ) → k < count_of s → j < count_of t
    → question_text (question_of s k) ≡ question_text (question_of t j) → question_of s k ≡ question_of t j
text_tells s t p q k j h l e = sym (read_back s p k h) ∙ ap read_back_lem e ∙ read_back t q j l
