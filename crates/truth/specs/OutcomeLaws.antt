-- What Truth and Claim answer has room in an outcome's bits.
use Rattle.std.specs.Prelude.{◌≡◌, Bool, true, false, List, ℕ, Result, Ok, Err}
use Rattle.std.proofs.Common.{ap, arith}
use Rattle.outcome.specs.Outcome.{Fits, refused, of_left_book, of_right_book, of_sheet}
use Rattle.outcome.specs.OutcomeLaws.{accepted_fits, declined_fits}
use Rattle.outcome.specs.Refused.{named, of_part}
use Rattle.outcome.specs.declared.Part.TheVariants as part
use Rattle.outcome.specs.declared.Refused.{Refused}
use Rattle.book.specs.Book.{book_refusal}
use Rattle.book.specs.OutcomeLaws.{book_named}
use Rattle.sheet.specs.Sheet.{sheet_refusal}
use Rattle.sheet.proofs.OutcomeLaws.{sheet_refusal-named}
use Rattle.book.specs.declared.Hidden.{Hidden}
use Rattle.truth.specs.Truth.{truth_answer, truth_outcome, claim_answer, claim_outcome}

told_fits : (a : Result (Unit {0}) Refused) → Fits (truth_outcome a)
told_fits (Ok _) = accepted_fits 0 0 (omega arith) (omega arith)
told_fits (Err r) = declined_fits r

claimed_fits : (a : Result Bool Refused) → Fits (claim_outcome a)
claimed_fits (Ok true) = accepted_fits 1 0 (omega arith) (omega arith)
claimed_fits (Ok false) = accepted_fits 0 0 (omega arith) (omega arith)
claimed_fits (Err r) = declined_fits r

-- Truth: 0, the refusal of the book or of the sheet, 31 or 24.
pub truth_fits : (b : List ℕ) (h : ℕ) (s : List ℕ) (m : ℕ) → Fits (truth_outcome (truth_answer b h s m))
truth_fits b h s m = told_fits _

-- Claim: 1 or 0, the refusal of a book or of the sheet, 31, or 24 to 26.
pub claim_fits : (l r : List ℕ) (h : Hidden) (s : List ℕ) (k i j m : ℕ) → Fits (claim_outcome (claim_answer l r h s k i j m))
claim_fits l r h s k i j m = claimed_fits _

-- ---- the refusals of books and sheets are told by the papers' numbers
module _ (b : List ℕ) (f : book_refusal b ≡ 0 → ⊥) where
  pub truth_book_told : truth_outcome (Err (of_part part.LeftBook (named (book_refusal b)))) ≡ refused of_left_book (book_refusal b)
  truth_book_told = ap (refused of_left_book) (book_named b f)

  pub claim_left_told : claim_outcome (Err (of_part part.LeftBook (named (book_refusal b)))) ≡ refused of_left_book (book_refusal b)
  claim_left_told = ap (refused of_left_book) (book_named b f)

  pub claim_right_told : claim_outcome (Err (of_part part.RightBook (named (book_refusal b)))) ≡ refused of_right_book (book_refusal b)
  claim_right_told = ap (refused of_right_book) (book_named b f)

module _ (s : List ℕ) (f : sheet_refusal s ≡ 0 → ⊥) where
  pub truth_sheet_told : truth_outcome (Err (of_part part.Sheet (named (sheet_refusal s)))) ≡ refused of_sheet (sheet_refusal s)
  truth_sheet_told = ap (refused of_sheet) (sheet_refusal-named s f)

  pub claim_sheet_told : claim_outcome (Err (of_part part.Sheet (named (sheet_refusal s)))) ≡ refused of_sheet (sheet_refusal s)
  claim_sheet_told = ap (refused of_sheet) (sheet_refusal-named s f)
