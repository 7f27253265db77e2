-- A book's format (01, "Book bytes" and "Check a book"; 02, 2026-02: "Book version 2"), over the list of its bytes.
use Rattle.std.specs.Prelude.{Bool, true, not, cond, ◌&&◌, ◌||◌, List, ℕ, zero, suc, ◌+◌, ◌*◌, eqb, ltb, leb, length, Option, None, Some, Result, Ok, Err}
use Rattle.fields.specs.Fields.{field}
use Rattle.fields.specs.Label.{label_width}
use Rattle.outcome.specs.Outcome.{Outcome, accepted}
use Rattle.outcome.specs.Refused.{of_part, declined, judged}
use Rattle.outcome.specs.Refusals.{first_of}
use Rattle.outcome.specs.declared.Refusal.{Refusal}
use Rattle.outcome.specs.declared.Part.TheVariants as part
use Rattle.theory.specs.Graph.{Link, link}
use Rattle.book.specs.declared.BookLink.{BookLink}
use Rattle.book.specs.declared.Counts.{Counts}

-- "Bytes 0-3: length L of the whole book."
abbrev pub length_of : List ℕ → ℕ
length_of s = field 4 s 0

-- "Byte 4: version 1."
abbrev pub version_of : List ℕ → ℕ
version_of s = field 1 s 4

-- 02, 2026-02: "book version 2", and "version 1 is still read". The versions are 1 up to this.
abbrev pub most_version : ℕ
most_version = 2

-- "Byte 5: cells n, 1 to 64."
abbrev pub cells_of : List ℕ → ℕ
cells_of s = field 1 s 5

-- "Bytes 6-7: links e, 0 to 512."
abbrev pub links_of : List ℕ → ℕ
links_of s = field 2 s 6

-- "Then n recordings of 4 bytes, for cells 0 to n-1": where the recording of cell x starts.
abbrev pub recording_place : ℕ → ℕ
recording_place x = 8 + 4 * x

-- The recording of cell x.
unfoldable pub recording_at : List ℕ → ℕ → ℕ
recording_at s x = field 4 s (recording_place x)

-- "e links of 3 bytes: from cell, label (0 to 255), to cell"; in version 2 "a link takes 4 bytes".
abbrev pub link_width : List ℕ → ℕ
link_width s = 2 + label_width (version_of s)

-- Where link k starts, after the recordings of n cells.
abbrev pub link_start : List ℕ → ℕ → ℕ → ℕ
link_start s n k = recording_place n + link_width s * k

-- Where link k starts.
abbrev pub link_place : List ℕ → ℕ → ℕ
link_place s k = link_start s (cells_of s) k

-- The link that starts at `at`, with a label of w bytes.
unfoldable pub link_in : ℕ → List ℕ → ℕ → Link
link_in w s at = link (field 1 s at) (field w s (at + 1)) (field 1 s (at + 1 + w))

-- Link k.
unfoldable pub link_at : List ℕ → ℕ → Link
link_at s k = link_in (label_width (version_of s)) s (link_place s k)

-- "4: n or e out of range. 5: L breaks the formula", which is L = 8 + 4 × n + 3 × e, or in version 2 L = 8 + 4 × n + 4 × e. 0: neither.
unfoldable pub counts_refusal : List ℕ → ℕ
counts_refusal s =
    cond (ltb (cells_of s) 1 || (ltb 64 (cells_of s) || ltb 512 (links_of s))) 4
    (cond (not (eqb (length_of s) (link_place s (links_of s)))) 5 0)

-- "1: fewer than 8 bytes. 2: L is not the number of bytes lent. 3: version", which "now means neither", and then as above.
unfoldable pub head_refusal : List ℕ → ℕ
head_refusal s =
    cond (ltb (length s) 8) 1
    (cond (not (eqb (length_of s) (length s))) 2
    (cond (ltb (version_of s) 1 || ltb most_version (version_of s)) 3 (counts_refusal s)))

-- m is below n, or they are equal and the rest decides.
unfoldable pub below : ℕ → ℕ → Bool → Bool
below m n rest = ltb m n || (eqb m n && rest)

-- Link j comes before link k as a triple.
unfoldable pub precedes : Link → Link → Bool
precedes j k = below j.from k.from (below j.label k.label (ltb j.to k.to))

-- The link before link k, if there is one.
abbrev pub preceding : List ℕ → ℕ → Option Link
preceding s zero = None
preceding s (suc k) = Some (link_at s k)

-- "Strictly rising as triples": link k is above the link before, if there is one.
unfoldable pub rises : List ℕ → ℕ → Bool
rises s zero = true
rises s (suc k) = precedes (link_at s k) (link_at s (suc k))

-- "6: a cell not below n; 7: not above the link before." 0: neither.
unfoldable pub link_refusal : List ℕ → ℕ → ℕ
link_refusal s k =
    cond (leb (cells_of s) (link_at s k).from || leb (cells_of s) (link_at s k).to) 6
    (cond (not (rises s k)) 7 0)

-- "Link by link from the front": the first refusal of `left` links from link k on.
unfoldable pub links_refusal : List ℕ → ℕ → ℕ → ℕ
links_refusal s k zero = 0
links_refusal s k (suc left) = first_of (link_refusal s k) (links_refusal s (suc k) left)

-- The refusal of a book, 0 where it is accepted.
unfoldable pub book_refusal : List ℕ → ℕ
book_refusal s = first_of (head_refusal s) (links_refusal s 0 (links_of s))

-- n and e, of a list.
abbrev pub counts_of : List ℕ → Counts
counts_of s = record { cells = cells_of s; links = links_of s }

-- "Check a book gives n and e", or the first refusal that applies.
unfoldable pub book_answer : List ℕ → Result Counts Refusal
book_answer s = judged (book_refusal s) (counts_of s)

-- 01's numbers of an answer: accepted with n and e, or the refusal of the left or only book.
abbrev pub book_outcome : Result Counts Refusal → Outcome
book_outcome (Ok counts) = accepted counts.cells counts.links
book_outcome (Err refusal) = declined (of_part part.LeftBook refusal)

-- A link as the code hands it out.
abbrev pub as_link : BookLink → Link
as_link l = link l.from l.label l.to
