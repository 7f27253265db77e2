-- Worked examples (01, "Examples"), computed: A's two books and its left one in version 2, their graphs and links, and each refusal once.
use Rattle.std.specs.Prelude.{◌≡◌, refl, List, [], ◌∷◌, ◌++◌, map, ℕ, take, set}
use Rattle.fields.specs.Fields.{field, bytes_of}
use Rattle.fields.specs.Label.{label_width}
use Rattle.outcome.specs.Outcome.{Outcome, accepted, refused, of_call, of_left_book}
use Rattle.outcome.specs.Refused.{judged, named}
use Rattle.theory.specs.Search.{list}
use Rattle.theory.specs.Graph.{link}
use Rattle.words.specs.Words.{bit}
use Rattle.book.specs.Book.{recording_at, link_in, link_at, counts_refusal, head_refusal, below, precedes, rises, link_refusal, links_refusal, book_refusal, book_answer, book_outcome}
use Rattle.book.specs.BookGraph.{graph_of, clear, kept, seen_recording, seen_recordings, seen_of}
use Rattle.book.specs.Widened.{wide_front, wide_links, widened}
use Rattle.book.specs.BookLinks.{links_before, first_link, part_from, links_answer, part_of, links_part, links_outcome}

-- A, left: 3 cells, recordings 5, 5, 6, links (0, 1, 1), (0, 1, 2).
unfoldable pub left_book : List ℕ
left_book =
    0 ∷ 0 ∷ 0 ∷ 26 ∷ 1 ∷ 3 ∷ 0 ∷ 2
    ∷ 0 ∷ 0 ∷ 0 ∷ 5 ∷ 0 ∷ 0 ∷ 0 ∷ 5 ∷ 0 ∷ 0 ∷ 0 ∷ 6
    ∷ 0 ∷ 1 ∷ 1 ∷ 0 ∷ 1 ∷ 2 ∷ []

-- A, right: 2 cells, recordings 5, 5, link (0, 1, 1).
unfoldable pub right_book : List ℕ
right_book =
    0 ∷ 0 ∷ 0 ∷ 19 ∷ 1 ∷ 2 ∷ 0 ∷ 1
    ∷ 0 ∷ 0 ∷ 0 ∷ 5 ∷ 0 ∷ 0 ∷ 0 ∷ 5
    ∷ 0 ∷ 1 ∷ 1 ∷ []

-- A, left, in version 2 (02, 2026-02), with the label a at its second link.
unfoldable pub left_book2 : ℕ → List ℕ
left_book2 a =
    0 ∷ 0 ∷ 0 ∷ 28 ∷ 2 ∷ 3 ∷ 0 ∷ 2
    ∷ 0 ∷ 0 ∷ 0 ∷ 5 ∷ 0 ∷ 0 ∷ 0 ∷ 5 ∷ 0 ∷ 0 ∷ 0 ∷ 6
    ∷ 0 ∷ 0 ∷ 1 ∷ 1 ∷ 0 ∷ bytes_of 2 a ++ 2 ∷ []

-- What an operation answers, and what it should.
pub record Row : Type 0 where
  pub answer : Outcome
  pub wanted : Outcome

-- Check a book.
abbrev checked : List ℕ → Outcome → Row
checked s o = record { answer = book_outcome (book_answer s); wanted = o }

-- Links of a cell.
abbrev linked : List ℕ → ℕ → Outcome → Row
linked s x o = record { answer = links_outcome (links_answer s x); wanted = o }

-- A's books; damaged ones, one for each refusal; the links of A's left book; then books of version 2.
unfoldable pub rows : List Row
rows =
    checked left_book (accepted 3 2)
    ∷ checked right_book (accepted 2 1)
    ∷ checked (take 7 left_book) (refused of_left_book 1)
    ∷ checked (left_book ++ 0 ∷ []) (refused of_left_book 2)
    ∷ checked (set left_book 4 3) (refused of_left_book 3)
    ∷ checked (set left_book 5 65) (refused of_left_book 4)
    ∷ checked (set left_book 5 4) (refused of_left_book 5)
    ∷ checked (set left_book 22 3) (refused of_left_book 6)
    ∷ checked (set left_book 25 1) (refused of_left_book 7)
    ∷ linked left_book 0 (accepted 2 20)
    ∷ linked left_book 1 (accepted 0 0)
    ∷ linked left_book 3 (refused of_call 26)
    ∷ checked (left_book2 256) (accepted 3 2)
    ∷ checked (set (left_book2 256) 4 0) (refused of_left_book 3)
    ∷ checked (set (left_book2 256) 4 1) (refused of_left_book 5)
    ∷ checked (set left_book 4 2) (refused of_left_book 5)
    ∷ checked (set (left_book2 256) 22 2) (accepted 3 2)
    ∷ checked (set (left_book2 256) 21 1) (refused of_left_book 7)
    ∷ linked (left_book2 65535) 0 (accepted 2 20)
    ∷ []

-- Every answer is the one wanted.
pub rows_hold : map (λ (r : Row). r.answer) rows ≡ map (λ (r : Row). r.wanted) rows
unfolding rows left_book right_book left_book2 bytes_of judged named book_answer book_refusal head_refusal counts_refusal links_refusal link_refusal rises precedes below link_at link_in label_width field links_answer part_from first_link links_before list
rows_hold = refl

-- The graph of A's left book, and of its right.
pub left_book_graph : ((graph_of left_book).size ≡ 3) × ((graph_of left_book).links ≡ link 0 1 1 ∷ link 0 1 2 ∷ []) × (list 3 (recording_at left_book) ≡ 5 ∷ 5 ∷ 6 ∷ [])
unfolding left_book link_at link_in label_width recording_at field list
left_book_graph = (refl, refl, refl)

pub right_book_graph : ((graph_of right_book).size ≡ 2) × ((graph_of right_book).links ≡ link 0 1 1 ∷ []) × (list 2 (recording_at right_book) ≡ 5 ∷ 5 ∷ [])
unfolding right_book link_at link_in label_width recording_at field list
right_book_graph = (refl, refl, refl)

-- What is seen of A's left book where cell 1 is hidden: its recording and the link to it are not.
pub left_book_seen : ((seen_of 2 left_book).size ≡ 3) × ((seen_of 2 left_book).links ≡ link 0 1 2 ∷ []) × (seen_recordings 2 left_book ≡ 5 ∷ 0 ∷ 6 ∷ [])
unfolding left_book clear kept seen_recording bit link_at link_in label_width recording_at field list
left_book_seen = (refl, refl, refl)

-- The part that holds the links of A's left cell 0.
pub left_book-part : links_part left_book 0 ≡ 0 ∷ 1 ∷ 1 ∷ 0 ∷ 1 ∷ 2 ∷ []
unfolding left_book part_of links_answer part_from first_link links_before book_refusal head_refusal counts_refusal links_refusal link_refusal rises precedes below link_at link_in label_width field list
left_book-part = refl

-- In version 2 a label has two bytes, also in the part that Links hands out.
pub left_book2_graph : ((graph_of (left_book2 65535)).links ≡ link 0 1 1 ∷ link 0 65535 2 ∷ []) × (links_part (left_book2 65535) 0 ≡ 0 ∷ 0 ∷ 1 ∷ 1 ∷ 0 ∷ 255 ∷ 255 ∷ 2 ∷ [])
unfolding left_book2 bytes_of part_of links_answer part_from first_link links_before book_refusal head_refusal counts_refusal links_refusal link_refusal rises precedes below link_at link_in label_width field list
left_book2_graph = (refl, refl)

-- With the label of version 1 it is A's left book widened, and the same graph.
pub left_book-widened : (widened left_book ≡ left_book2 1) × (graph_of left_book ≡ graph_of (left_book2 1))
unfolding left_book left_book2 wide_front wide_links bytes_of link_at link_in label_width recording_at field list
left_book-widened = (refl, refl)
