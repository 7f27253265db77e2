-- What is read of an opened book is what its bytes answer, whether they were accepted or refused.
use Rattle.std.specs.Prelude.{Bool, ◌&&◌, ◌≡◌, ℕ, ◌+◌, ◌-◌, ◌*◌, ◌≤◌, ◌<◌}
use Rattle.std.proofs.Math.Bool.{true, false, cond}
use mathlib.Core.List.{List, []}
use Rattle.std.proofs.Math.Path.{refl}
use Rattle.std.proofs.Common.{sym, arith}
use Rattle.std.proofs.Math.Nat.{mul-sub, mul-le-mul_left}
use borrow.Author.Tests.{ltb-true, ltb-false, eqb-true, eqb-false, le-leb, le-ltb, ne_eqb}
use Rattle.std.proofs.Math.Dec.{eqb, ltb}
use Rattle.std.proofs.Math.ListN.{length}
use Rattle.std.specs.Borrow.{Bor}
use Rattle.book.specs.Book.{cells_of, links_of, link_width, link_start, link_place, link_at, book_refusal, book_answer}
use Rattle.book.specs.BookLinks.{first_link, count_out, links_answer, part_of, links_part}
use Rattle.book.specs.AcceptedLaws.{book_sizes, answer_accepted, answer_refused}
use Rattle.book.specs.OutgoingLaws.{first-rises, part_is}
use Rattle.open_book.specs.Opened.{opened, answer_kept, has_kept, recording_kept, run_kept, part_kept, open_answer, open_recording, open_part, recording_answer}

module _ (b : Bor (List ℕ)) where
  abbrev s : List ℕ
  s = b.now

  -- "Check a book gives n and e", or the refusal
  pub opened_answer : open_answer (opened b) ≡ book_answer s
  unfolding answer_kept
  opened_answer = go (eqb (book_refusal s) 0) refl
    where
      go : (t : Bool) → eqb (book_refusal s) 0 ≡ t → open_answer (opened b) ≡ book_answer s
      go true d =
          let z = eqb-true _ _ d in
          rw (answer_accepted s z, ne_eqb (cells_of s) 0 (λ p. omega (arith, (book_sizes s z).some)))
      go false d = rw (answer_refused s (eqb-false _ _ d))

  -- there is such a cell, by what is kept, where the book is accepted and has it
  has_is : (x : ℕ) → has_kept s (opened b).cells (opened b).links x ≡ (eqb (book_refusal s) 0 && ltb x (cells_of s))
  unfolding has_kept
  has_is x = go (eqb (book_refusal s) 0) refl (ltb x (cells_of s)) refl
    where
      go : (t : Bool) → eqb (book_refusal s) 0 ≡ t → (u : Bool) → ltb x (cells_of s) ≡ u → has_kept s (opened b).cells (opened b).links x ≡ (t && u)
      go true d true h =
          let z : book_refusal s ≡ 0 = eqb-true _ _ d in
          let room : link_start s (cells_of s) (links_of s) ≤ length s = omega (arith, (book_sizes s z).sized) in
          rw (answer_accepted s z, h, le-leb _ _ room)
      go true d false h = rw (answer_accepted s (eqb-true _ _ d), h)
      go false d u h = rw (answer_refused s (eqb-false _ _ d), le-ltb x 0 (omega arith))

  -- the recording of a cell
  pub opened_recording : (x : ℕ) → open_recording (opened b) x ≡ recording_answer s x
  unfolding recording_kept recording_answer
  opened_recording x = rw (has_is x)

  -- by the counts of an accepted book the links out of a cell are the part that Links hands out
  run-part : book_refusal s ≡ 0 → (x : ℕ) → x < cells_of s → run_kept s (cells_of s) (links_of s) x ≡ links_part s x
  unfolding run_kept first_link link_at
  run-part z x h =
      let up = mul-le-mul_left (link_width s) (first-rises s x) in
      let size : link_place s (first_link s (x + 1)) - link_place s (first_link s x) ≡ link_width s * count_out s x =
      omega (arith, mul-sub (link_width s) (first_link s (x + 1)) (first_link s x)) in
      rw size (sym (part_is s z x h))

  -- "Links hands out that part of the book"
  pub opened-part : (x : ℕ) → open_part (opened b) x ≡ links_part s x
  unfolding part_kept links_answer part_of
  opened-part x = rw (has_is x) (go (eqb (book_refusal s) 0) refl (ltb x (cells_of s)) refl)
    where
      go : (t : Bool) → eqb (book_refusal s) 0 ≡ t → (u : Bool) → ltb x (cells_of s) ≡ u
          → cond (t && u) (run_kept s (opened b).cells (opened b).links x) [] ≡ links_part s x
      go true d true h = let z = eqb-true _ _ d in rw (answer_accepted s z) (run-part z x (ltb-true _ _ h))
      go true d false h = rw (d, le-leb (cells_of s) x (ltb-false _ _ h))
      go false d u h = rw d
