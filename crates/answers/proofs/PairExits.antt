-- What each way out of Pair shows of the definitions of `specs/`, in the form in which `search` finds it (as `RowExits`).
use mathlib.Core.List.{List}
use mathlib.Core.Path.{◌≡◌, refl, sym, ap, ◌∙◌}
use Prim.Native.Nat.{ℕ, ◌^◌, ◌≤◌, ◌<◌}
use native.Mathlib.Omega.{arith}
use borrow.Author.Tests.{lt-ltb, le-ltb, eq-eqb, ne_eqb}
use mir.Syntax.{w8}
use mir.Val.{Fits}
use lib.ListN.{length, get_or}
use Rattle.fields.specs.Fields.{Bytes}
use Rattle.sheet.specs.Sheet.{hidden_place, count_of, entry_start, sheet_refusal}
use Rattle.sheet.specs.declared.Question.{Question}
use Rattle.answers.specs.Pair.{place_of, question_answer, place_answer, pair_answer}
use Rattle.answers.specs.PairLaws.{pair_given, pair_fetched, fetched_small}
use Rattle.std.specs.Prelude.{Result, Ok, Err}
use Rattle.outcome.specs.Refused.{number, of_part}
use Rattle.outcome.specs.RefusalLaws.{number-some, named-number}
use Rattle.outcome.specs.declared.Part.TheVariants as part
use Rattle.outcome.specs.declared.Refusal.{Refusal}
use Rattle.outcome.specs.declared.Refusal.TheVariants.{NoEntry, NoPlace}
use Rattle.outcome.specs.declared.Refused.{Refused}
use Rattle.answers.specs.declared.Said.{Said}
use Rattle.answers.specs.declared.Said.TheVariants.{Matched, Hidden, Parted}
use Rattle.answers.specs.declared.Place.{Place}
use Rattle.answers.specs.declared.Place.TheVariants as says

-- ---- a place
module _ (number : ℕ) where
  pub place_matched : number ≡ 0 → says.Matched ≡ place_of number
  unfolding place_of
  place_matched z = simp (eq-eqb number 0 z)

  pub place_hidden : number ≡ hidden_place → says.Hidden ≡ place_of number
  unfolding place_of
  place_hidden e = rw e

  pub place_parted : (number ≡ 0 → ⊥) → (number ≡ hidden_place → ⊥) → says.Parted (record { 0 = number }) ≡ place_of number
  unfolding place_of
  place_parted f g = simp (ne_eqb number 0 f, ne_eqb number hidden_place g)

-- ---- Pair, of an accepted sheet
module _ (map : List ℕ) (place : ℕ) (s : List ℕ) (good : sheet_refusal s ≡ 0) where
  pub pair_outside : length map ≤ place → (r : Refused) → r ≡ of_part part.Call NoPlace → Err r ≡ pair_answer map place s
  unfolding pair_answer
  pair_outside h r d = simp (d, eq-eqb (sheet_refusal s) 0 good, le-ltb place (length map) h)

  module _ (l : place < length map) (said : Place) (d : said ≡ place_of (get_or map place 0)) where
    pair_says : {answer : Result Said Refused} (told : Place) → said ≡ told → answer ≡ place_answer s told → answer ≡ pair_answer map place s
    pair_says told e a =
        a ∙ ap (place_answer s) (sym e ∙ d) ∙ sym (pair_given map place s (record { good = good; inside = l }))

    pub pair_matched : said ≡ says.Matched → Ok Matched ≡ pair_answer map place s
    unfolding place_answer
    pair_matched e = pair_says says.Matched e refl

    pub pair_hidden : said ≡ says.Hidden → Ok Hidden ≡ pair_answer map place s
    unfolding place_answer
    pair_hidden e = pair_says says.Hidden e refl

    module _ (question : Question) (e : said ≡ says.Parted question) (q : ℕ) (dq : q ≡ count_of s) where
      pub pair_unknown : q ≤ question.0 → (r : Refused) → r ≡ of_part part.Call NoEntry → Err r ≡ pair_answer map place s
      unfolding place_answer question_answer
      pair_unknown h r d = rw d (pair_says (says.Parted question) e (simp (← dq, le-ltb question.0 q h)))

      pub pair_known : question.0 < q → (start : ℕ) → start ≡ entry_start s question.0 → Ok (Parted question start) ≡ pair_answer map place s
      unfolding place_answer question_answer
      pair_known h start ds = pair_says (says.Parted question) e (simp (← dq, lt-ltb question.0 q h, ← ds))

-- ---- Pair: r is the refusal of the sheet
pub pair_refused : (map : List ℕ) (place : ℕ) (s : List ℕ) (r : Refusal) → number r ≡ sheet_refusal s → (x : Refused) → x ≡ of_part part.Sheet r → Err x ≡ pair_answer map place s
unfolding pair_answer
pair_refused map place s r d x e = rw (e, ← d, ne_eqb (number r) 0 (number-some r), named-number r)

-- ---- the answer as a number
-- what a slice of bytes gives
pub bytes_known : (s : List ℕ) → ((i : ℕ) → Fits w8 (get_or s i 0)) → Bytes s
bytes_known s f = record { each = λ i. (f i).fits }

module _ (map : List ℕ) (place : ℕ) (s : List ℕ) (b : Bytes s) (question : Question) (start : ℕ) (d : Ok (Parted question start) ≡ pair_answer map place s) where
  small : (question.0 < 2 ^ 24) × (start < 2 ^ 24)
  small = fetched_small b (pair_fetched map place s question start (sym d))

  pub question_small : question.0 < 2 ^ 24
  question_small = small.0

  pub start_small : start < 2 ^ 24
  start_small = small.1

  pub start_fits : start < 2 ^ 32
  start_fits = omega (arith, start_small)
