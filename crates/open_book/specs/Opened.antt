-- An opened book (01: "opens a checked book once and keeps its bytes and counts for reading links"), and what is read of it by what it keeps.
use Rattle.std.specs.Prelude.{Bool, cond, ◌&&◌, List, [], ℕ, ◌+◌, ◌-◌, eqb, ltb, leb, length, take, drop, Result, Ok, Err, Option, Some, None}
use Rattle.std.specs.Borrow.{Bor}
use Rattle.book.specs.Book.{cells_of, recording_at, link_start, book_refusal, book_answer}
use Rattle.book.specs.BookLinks.{links_before, links_after}
use Rattle.book.specs.declared.Counts.{Counts}
use Rattle.book.specs.declared.Recording.{Recording}
use Rattle.open_book.specs.declared.OpenBook.{OpenBook}
use Rattle.outcome.specs.declared.Refusal.{Refusal}

-- n and e, as the check gives them. A refused book has none, and an accepted one has a cell.
abbrev pub counts_of : Result Counts Refusal → Counts
counts_of (Ok counts) = counts
counts_of (Err refusal) = record { cells = 0; links = 0 }

-- What opening keeps of a book: its bytes and its counts.
abbrev pub opened : Bor (List ℕ) → OpenBook
opened bytes =
    let counts = counts_of (book_answer bytes.now) in
    record { bytes = bytes; cells = counts.cells; links = counts.links }

-- ---- by the counts n and e
-- The check's answer.
unfoldable pub answer_kept : List ℕ → ℕ → ℕ → Result Counts Refusal
answer_kept s n e = cond (eqb n 0) (book_answer s) (Ok (record { cells = n; links = e }))

-- There is a cell x: it is below n, and the cells and links lie in the bytes, as those of an opened book do.
unfoldable pub has_kept : List ℕ → ℕ → ℕ → ℕ → Bool
has_kept s n e x = ltb x n && leb (link_start s n e) (length s)

-- The recording of cell x.
unfoldable pub recording_kept : List ℕ → ℕ → ℕ → ℕ → Option Recording
recording_kept s n e x = cond (has_kept s n e x) (Some (record { 0 = recording_at s x })) None

-- Where the links out of cell x start, or those of a later cell.
abbrev pub start_kept : List ℕ → ℕ → ℕ → ℕ → ℕ
start_kept s n e x = link_start s n (links_before x (links_after s n e))

-- The bytes from the first link out of cell x to the next cell's first.
unfoldable pub run_kept : List ℕ → ℕ → ℕ → ℕ → List ℕ
run_kept s n e x = take (start_kept s n e (x + 1) - start_kept s n e x) (drop (start_kept s n e x) s)

-- The part that holds the links out of cell x, empty where there is no such cell.
unfoldable pub part_kept : List ℕ → ℕ → ℕ → ℕ → List ℕ
part_kept s n e x = cond (has_kept s n e x) (run_kept s n e x) []

-- ---- of an opened book
-- What the check answered.
abbrev pub open_answer : OpenBook → Result Counts Refusal
open_answer b = answer_kept b.bytes.now b.cells b.links

-- The recording of cell x.
abbrev pub open_recording : OpenBook → ℕ → Option Recording
open_recording b x = recording_kept b.bytes.now b.cells b.links x

-- The part that holds the links out of cell x.
abbrev pub open_part : OpenBook → ℕ → List ℕ
open_part b x = part_kept b.bytes.now b.cells b.links x

-- ---- of bytes
-- The recording of cell x of a book. A refused book has no cells.
unfoldable pub recording_answer : List ℕ → ℕ → Option Recording
recording_answer s x =
    cond (eqb (book_refusal s) 0 && ltb x (cells_of s)) (Some (record { 0 = recording_at s x })) None
