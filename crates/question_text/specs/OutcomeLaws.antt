-- What the two operations on a question's text answer has room in an outcome's bits.
use Rattle.std.specs.Prelude.{List, ◌≡◌, ℕ, ◌/◌, ◌%◌, ◌^◌, eqb, ltb, Ok, Err}
use Rattle.std.proofs.Common.{ap, arith, ltb-false}
use Rattle.outcome.specs.Outcome.{Fits, refused as declines, of_sheet, code}
use Rattle.outcome.specs.OutcomeLaws.{accepted_fits, declined_fits}
use Rattle.outcome.specs.Refused.{named, of_part}
use Rattle.outcome.specs.RefusalLaws.{either}
use Rattle.outcome.specs.declared.Refusal.{Refusal}
use Rattle.outcome.specs.declared.Refusal.TheVariants as says
use Rattle.outcome.specs.declared.Part.TheVariants as part
use Rattle.theory.specs.Expression.{NodeExpr}
use Rattle.sheet.specs.Sheet.{count_of, question_of, sheet_refusal}
use Rattle.sheet.proofs.OutcomeLaws.{sheet_refusal-named}
use Rattle.question_measure.specs.Text.{text_length, chain, most_chain, most_length}
use Rattle.question_text.specs.Answer.{Answer, refused, question_answer, length_answer, with_room, write_answer, text_outcome}
use Rattle.question_text.specs.Laws.{length_number}

abbrev Fitting : Answer → Type 0
Fitting a = Fits (text_outcome a)

-- A refusal of the call does.
of_the_call : (r : Refusal) → Fitting (refused r)
of_the_call r = declined_fits (of_part part.Call r)

question_fits : (q : NodeExpr) → Fitting (question_answer q)
unfolding question_answer
question_fits q =
    either Fitting (ltb most_chain (chain q)) (λ _. of_the_call says.LongChain) (λ _.
    either Fitting (ltb most_length (text_length q)) (λ _. of_the_call says.LongText) (λ e.
    let most = ltb-false most_length (text_length q) e in
    accepted_fits (text_length q % 2 ^ 24) (text_length q / 2 ^ 24) (omega arith) (omega arith)))

-- The length operation: the length, the refusal of the sheet, 25, 28 or 29.
pub length_fits : (s : List ℕ) (k : ℕ) → Fits (text_outcome (length_answer s k))
unfolding length_answer
length_fits s k =
    either Fitting (eqb (sheet_refusal s) 0)
    (λ _. either Fitting (ltb k (count_of s)) (λ _. question_fits (question_of s k)) (λ _. of_the_call says.NoEntry))
    (λ _. declined_fits (of_part part.Sheet (named (sheet_refusal s))))

-- The writing operation: the same, or 30.
pub write_fits : (s : List ℕ) (k m : ℕ) → Fits (text_outcome (write_answer s k m))
unfolding with_room
write_fits s k m = each (length_answer s k) (length_fits s k)
  where
    each : (a : Answer) → Fitting a → Fitting (with_room m a)
    each (Ok n) h = either Fitting (ltb m n) (λ _. of_the_call says.TextRoom) (λ _. h)
    each (Err r) h = h

-- CUHNAVEL_LENGTH of include/cuhnavel.h: the number of a length, without its lowest 16 bits, is the length.
pub length_taken : (n : ℕ) → code (text_outcome (Ok n)) / 2 ^ 16 ≡ n
length_taken n = omega (arith, length_number n)

-- The sheet's refusal is told by the papers' number.
pub sheet_told : (s : List ℕ) → (sheet_refusal s ≡ 0 → ⊥) → text_outcome (Err (of_part part.Sheet (named (sheet_refusal s)))) ≡ declines of_sheet (sheet_refusal s)
sheet_told s f = ap (declines of_sheet) (sheet_refusal-named s f)
