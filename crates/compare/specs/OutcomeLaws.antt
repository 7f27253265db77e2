-- What Compare answers has room in an outcome's bits, and tells the refusal of a book by its number.
use Rattle.std.specs.Prelude.{◌≡◌, refl, List, ℕ, ◌^◌, ◌<◌, length, Result, Ok, Err}
use Rattle.std.proofs.Common.{ap, arith}
use Rattle.fields.specs.Fields.{Bytes}
use Rattle.outcome.specs.Outcome.{Fits, refused, of_left_book, of_right_book}
use Rattle.outcome.specs.OutcomeLaws.{accepted_fits, declined_fits}
use Rattle.outcome.specs.Refused.{named, of_part}
use Rattle.outcome.specs.declared.Part.TheVariants as part
use Rattle.outcome.specs.declared.Refused.{Refused}
use Rattle.theory.specs.Bisimulation.{Sides}
use Rattle.book.specs.declared.Hidden.{Hidden}
use Rattle.book.specs.Book.{book_refusal}
use Rattle.book.specs.OutcomeLaws.{book_named}
use Rattle.compare_laws.specs.Places.{zeros}
use Rattle.compare_laws.proofs.PlaceLaws.{zeros-nonzeros}
use Rattle.compare_lists.specs.BookSetting.{sheet_version}
use Rattle.compare.specs.declared.Compared.{Compared}
use Rattle.compare.specs.Compare.{pairs_of, serves, compare_outcome, compared_map, compared_sheet, Lists, right_answer}
use Rattle.compare.specs.Laws.{compared_accepts, room_most, pairs_most}
use Rattle.compare.specs.Promises.{Given, map_places, sheet_fits}

-- Compare: the sheet's length and the number of zeros; 20, the refusal of a book, 31 among them, or 21 to 23.
pub compare_fits : (x : Sides) (l r : List ℕ) (c : ℕ) (hidden : Hidden) (before : Lists) → Bytes l × Bytes r → Fits (compare_outcome (right_answer x l r c hidden before))
compare_fits x l r c hidden before bytes = of (right_answer x l r c hidden before) refl
  where
    of : (a : Result Compared Refused) → a ≡ right_answer x l r c hidden before → Fits (compare_outcome a)
    of (Err r) e = declined_fits r
    of (Ok done) e =
        let (g, d, n) = compared_accepts l r c hidden _ _ _ _ _ done.sheet done.matched e in
        let books : Given l r c = record { bytes = bytes; left = g.left; right = g.right; bound = g.bound } in
        let most = pairs_most l r g.left g.right in
        accepted_fits done.sheet done.matched
        (omega (arith, d, sheet_fits x hidden books, room_most (sheet_version l r) (pairs_of l r) 4096 most))
        (omega (arith, n, zeros-nonzeros (compared_map x l r c hidden), map_places x hidden books))

-- the refusal of the left book is told as the papers number it,
pub left_told : (l : List ℕ) → (book_refusal l ≡ 0 → ⊥) → compare_outcome (Err (of_part part.LeftBook (named (book_refusal l)))) ≡ refused of_left_book (book_refusal l)
left_told l f = ap (refused of_left_book) (book_named l f)

-- and that of the right one
pub right_told : (r : List ℕ) → (book_refusal r ≡ 0 → ⊥) → compare_outcome (Err (of_part part.RightBook (named (book_refusal r)))) ≡ refused of_right_book (book_refusal r)
right_told r f = ap (refused of_right_book) (book_named r f)
