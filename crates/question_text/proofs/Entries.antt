-- The text of an entry by its kind, and what is known of an entry that is to be written.
use mathlib.Core.List.{List, [], ◌∷◌, ◌++◌}
use mathlib.Core.Path.{◌≡◌, refl, sym, ap, ◌∙◌}
use Prim.Native.Nat.{ℕ, ◌≤◌, ◌<◌}
use native.Mathlib.Omega.{arith}
use lib.ListN.{length, get_or}
use Rattle.theory.specs.Graph.{same, differ}
use Rattle.theory.specs.Expression.{NodeExpr}
use Rattle.sheet.specs.Entry.{Entry, truth, negation, conjunction, disjunction, way, comparison, kind_number, kind_of, first_way_lem, second_way, named, spell_way, spell, numbers, Below}
use Rattle.sheet.specs.declared.kinds.Kind.{Kind}
use Rattle.sheet.specs.declared.kinds.Kind.TheVariants as says
use Rattle.sheet.specs.Sheet.{count_of, entry_at, entry_start, sheet_refusal}
use Rattle.sheet.proofs.AcceptedLaws.{well_formed_entry, accepted_standing, accepted_question}
use Rattle.sheet.specs.Reading.{Readable, HasNumber}
use Rattle.sheet.proofs.ReadingLaws.{readable, kind_read}
use Rattle.sheet.proofs.KnownLaws.{below_at}
use Rattle.text.specs.Text.{ascii}
use Rattle.question_measure.specs.Text.{or_stay, steps_text, question_text, way_text}
use Rattle.question_text.specs.Answer.{text_of}
use Rattle.question_text.specs.Writing.{Started, EntryAt, junction_by, sign_by, questions_of}

-- ---- the text of an entry, by its kind

module _ (qs : List NodeExpr) where
  pub text_true : (e : Entry) → kind_of e ≡ 0 → question_text (spell qs e) ≡ ascii "<.>"
  unfolding kind_of spell question_text steps_text or_stay
  text_true truth h = refl
  text_true (negation i) h = absurd (omega arith)
  text_true (conjunction i j) h = absurd (omega arith)
  text_true (disjunction i j) h = absurd (omega arith)
  text_true (way s) h = absurd (omega arith)
  text_true (comparison same s s') h = absurd (omega arith)
  text_true (comparison differ s s') h = absurd (omega arith)

  pub text_not : (e : Entry) → kind_of e ≡ 1 → question_text (spell qs e) ≡ ascii "!(" ++ (question_text (named qs (get_or (numbers e) 0 0)) ++ ascii ")")
  unfolding kind_of numbers spell question_text
  text_not truth h = absurd (omega arith)
  text_not (negation i) h = refl
  text_not (conjunction i j) h = absurd (omega arith)
  text_not (disjunction i j) h = absurd (omega arith)
  text_not (way s) h = absurd (omega arith)
  text_not (comparison same s s') h = absurd (omega arith)
  text_not (comparison differ s s') h = absurd (omega arith)

  pub text_two : (e : Entry) → 2 ≤ kind_of e → kind_of e < 4
      → question_text (spell qs e)
      ≡ ascii "(" ++ (question_text (named qs (get_or (numbers e) 0 0)) ++ ((junction_by (kind_of e) ∷ []) ++ (question_text (named qs (get_or (numbers e) 1 0)) ++ ascii ")")))
  unfolding kind_of numbers spell question_text
  text_two truth h l = absurd (omega arith)
  text_two (negation i) h l = absurd (omega arith)
  text_two (conjunction i j) h l = refl
  text_two (disjunction i j) h l = refl
  text_two (way s) h l = absurd (omega arith)
  text_two (comparison same s s') h l = absurd (omega arith)
  text_two (comparison differ s s') h l = absurd (omega arith)

  pub text_way : (e : Entry) → kind_of e ≡ 4 → question_text (spell qs e) ≡ ascii "<" ++ (way_text (spell_way qs (first_way_lem e)) ++ ascii ">")
  unfolding kind_of first_way_lem spell question_text
  text_way truth h = absurd (omega arith)
  text_way (negation i) h = absurd (omega arith)
  text_way (conjunction i j) h = absurd (omega arith)
  text_way (disjunction i j) h = absurd (omega arith)
  text_way (way s) h = refl
  text_way (comparison same s s') h = absurd (omega arith)
  text_way (comparison differ s s') h = absurd (omega arith)

  pub text_ways : (e : Entry) → 5 ≤ kind_of e
      → question_text (spell qs e) ≡ ascii "<" ++ (way_text (spell_way qs (first_way_lem e)) ++ (sign_by (kind_of e) ++ (way_text (spell_way qs (second_way e)) ++ ascii ">")))
  unfolding kind_of first_way_lem second_way spell question_text sign_by
  text_ways truth h = absurd (omega arith)
  text_ways (negation i) h = absurd (omega arith)
  text_ways (conjunction i j) h = absurd (omega arith)
  text_ways (disjunction i j) h = absurd (omega arith)
  text_ways (way s) h = absurd (omega arith)
  text_ways (comparison same s s') h = refl
  text_ways (comparison differ s s') h = refl

-- ---- the kinds of a same and a differ
pub comparison_kinds : (k : Kind) → (k ≡ says.Way → ⊥) → 4 ≤ kind_number k → 5 ≤ kind_number k
comparison_kinds says.True f h = absurd (omega arith)
comparison_kinds says.Not f h = absurd (omega arith)
comparison_kinds says.And f h = absurd (omega arith)
comparison_kinds says.Or f h = absurd (omega arith)
comparison_kinds says.Way f h = absurd (f refl)
comparison_kinds says.Same f h = omega arith
comparison_kinds says.Differ f h = omega arith

-- ---- entry k, which starts at `start`

pub record Entered (s : List ℕ) (k start : ℕ) : Type 0 where
  pub good : sheet_refusal s ≡ 0
  pub below : k < count_of s
  pub place : start ≡ entry_start s k

pub entered : {s starts : List ℕ} {k start : ℕ} → Started s starts (length starts) → EntryAt s starts k start → Entered s k start
entered o e = record { good = o.good; below = omega (arith, e.listed, o.entries); place = e.place }

module _ (s : List ℕ) (k start : ℕ) (o : Entered s k start) where
  pub entered_readable : Readable s start
  entered_readable = readable s k start o.good o.below o.place

  -- entry 0 is a true
  pub entered_first : k ≡ 0 → 0 ≡ kind_of (entry_at s start)
  entered_first z = sym (rw o.place ((accepted_standing s o.good k o.below).first z)) ∙ kind_read entered_readable

  pub entered_text : text_of s k ≡ question_text (spell (questions_of s) (entry_at s start))
  entered_text = rw o.place (ap question_text (accepted_question s o.good k o.below))

  pub entered_earlier : Below k (numbers (entry_at s start))
  entered_earlier = rw o.place (well_formed_entry (accepted_standing s o.good k o.below)).earlier

-- the entry that its number j names
module _ (s : List ℕ) (k start i j : ℕ) (o : Entered s k start) (h : HasNumber s start j) (d : i ≡ get_or (numbers (entry_at s start)) j 0) where
  pub number_below : i < k
  number_below = rw d (below_at k (numbers (entry_at s start)) j (entered_earlier s k start o) h.present)
