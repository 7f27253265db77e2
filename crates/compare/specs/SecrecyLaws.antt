-- Hidden cells are not told (02, 2026-07): Compare of books that differ in them alone.
use Rattle.std.specs.Prelude.{not, ◌||◌, List, ◌++◌, ◌≡◌, ℕ, ◌*◌, ◌^◌, ltb, leb, length, Result, Ok, Err}
use Rattle.std.proofs.Math.Bool.{cond}
use Rattle.std.proofs.Math.Path.{refl, sym}
use Rattle.std.proofs.Common.{ap, ap₂, ◌∙◌}
use Rattle.std.proofs.Math.Dec.{eqb}
use Rattle.std.proofs.Math.ListN.{drop, replicate}
use Rattle.theory.specs.Bisimulation.{Sides}
use Rattle.outcome.specs.Refused.{named, of_part}
use Rattle.outcome.specs.declared.Refusal.TheVariants as says
use Rattle.outcome.specs.declared.Part.TheVariants as part
use Rattle.outcome.specs.declared.Refused.{Refused}
use Rattle.book.specs.declared.Hidden.{Hidden}
use Rattle.book.specs.Book.{book_refusal}
use Rattle.book.specs.BookGraph.{hides_beyond}
use Rattle.book.specs.Contents.{SameSeen}
use Rattle.book.specs.SeenLaws.{seen_alike}
use Rattle.sheet.specs.Sheet.{most_bound}
use Rattle.sheet.specs.Encoding.{sheet_bytes}
use Rattle.compare_laws.specs.Comparison.{comparison}
use Rattle.compare_laws.specs.Places.{zeros}
use Rattle.compare_lists.specs.BookSetting.{sheet_version, setting_of}
use Rattle.compare.specs.declared.Compared.{Compared}
use Rattle.compare.specs.Compare.{lent_answer, compare_answer, compared_sheet, Lists, left_by, right_answer}

-- Accepted books of which the same is seen: Compare answers the same and leaves the same.
module _ (x : Sides) (l l' r r' : List ℕ) (c : ℕ) (hidden : Hidden) (before : Lists) (left : (book_refusal l ≡ 0) × (book_refusal l' ≡ 0))
    (right : (book_refusal r ≡ 0) × (book_refusal r' ≡ 0)) (d : SameSeen hidden.left l l') (e : SameSeen hidden.right r r') where
  setting_alike : setting_of x l r c hidden ≡ setting_of x l' r' c hidden
  unfolding sheet_version
  setting_alike =
      let gl = seen_alike hidden.left l l' left.0 left.1 d in
      let gr = seen_alike hidden.right r r' right.0 right.1 e in
      λ i. record { left = gl i; right = gr i; sides = x; bound = c; version = cond (eqb (d.version i) 2 || eqb (e.version i) 2) 2 1 }

  sheet_alike : compared_sheet x l r c hidden ≡ compared_sheet x l' r' c hidden
  sheet_alike = λ i. sheet_bytes (setting_alike i).version c (comparison (setting_alike i)).entries

  judged_alike : (sheet count : ℕ) → compare_answer l r c hidden (length before.map) (length before.room) (length before.scratch) sheet count
      ≡ compare_answer l' r' c hidden (length before.map) (length before.room) (length before.scratch) sheet count
  unfolding compare_answer hides_beyond
  judged_alike sheet count =
      let n = d.cells in
      let m = e.cells in
      let p : book_refusal l ≡ book_refusal l' = left.0 ∙ sym left.1 in
      let q : book_refusal r ≡ book_refusal r' = right.0 ∙ sym right.1 in
      λ i.
      cond (ltb most_bound c) (Err (of_part part.Call says.BoundAbove))
      (cond (not (eqb (p i) 0)) (Err (of_part part.LeftBook (named (p i))))
      (cond (not (eqb (q i) 0)) (Err (of_part part.RightBook (named (q i))))
      (cond (leb (2 ^ n i) hidden.left) (Err (of_part part.LeftBook says.HiddenBeyond))
      (cond (leb (2 ^ m i) hidden.right) (Err (of_part part.RightBook says.HiddenBeyond))
      (lent_answer (setting_alike i).version (n i * m i) (length before.map) (length before.room) (length before.scratch) sheet count)))))

  answer_alike : right_answer x l r c hidden before ≡ right_answer x l' r' c hidden before
  answer_alike =
      judged_alike _ _
      ∙ ap₂ (compare_answer l' r' c hidden (length before.map) (length before.room) (length before.scratch)) (ap length sheet_alike)
      (λ i. zeros (comparison (setting_alike i)).map)

  leaves_alike : (a : Result Compared Refused) → left_by x l r c hidden before a ≡ left_by x l' r' c hidden before a
  unfolding left_by
  leaves_alike (Ok _) =
      λ i. record {
        map = (comparison (setting_alike i)).map;
        room = sheet_alike i ++ drop (length (sheet_alike i)) before.room;
        scratch = replicate (length before.scratch) 0;
      }
  leaves_alike (Err _) = refl

  pub seen_compared : (right_answer x l r c hidden before ≡ right_answer x l' r' c hidden before)
      × (left_by x l r c hidden before (right_answer x l r c hidden before) ≡ left_by x l' r' c hidden before (right_answer x l' r' c hidden before))
  seen_compared = (answer_alike, leaves_alike _ ∙ ap (left_by x l' r' c hidden before) answer_alike)
