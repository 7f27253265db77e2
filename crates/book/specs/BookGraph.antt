-- The data graph of a book's bytes (01, "The collection's objects"): its cells, links and recordings.
use Rattle.std.specs.Prelude.{Bool, true, not, cond, ◌&&◌, List, [], ◌∷◌, ℕ, ◌^◌, eqb, leb, get_or}
use Rattle.theory.specs.Search.{list}
use Rattle.theory.specs.Graph.{Comparison, Graph, Node, Link, compared}
use Rattle.words.specs.Words.{bit}
use Rattle.book.specs.declared.Hidden.{Hidden}
use Rattle.book.specs.Book.{cells_of, links_of, recording_at, link_at}

-- What is compared of a recording: two are same where this is.
abbrev pub data_value : ℕ → ℕ
data_value recording = recording

-- Whether a recording has a sound: "Studios now use recording 0 for a cell that only opens a page" (02, 2026-04), a silent one.
unfoldable pub heard : ℕ → Bool
heard recording = not (eqb (data_value recording) 0)

-- Whether two recordings pass a comparison: "a same or a differ holds only where both ends have a nonzero recording".
unfoldable pub passes : Comparison → ℕ → ℕ → Bool
passes t a b = (heard a && heard b) && compared data_value t a b

-- The recordings, for cells 0 to n-1.
abbrev pub book_recordings : List ℕ → List ℕ
book_recordings s = list (cells_of s) (recording_at s)

-- The links in order.
abbrev pub book_links : List ℕ → List Link
book_links s = list (links_of s) (link_at s)

-- The data graph of a book: of its cells, its recordings and its links, and of nothing else in its bytes.
abbrev pub graph_of : List ℕ → Graph
graph_of s =
    record {
      size = cells_of s;
      shown = λ x. true;
      links = book_links s;
      ends = λ t x y. passes t (get_or (book_recordings s) x 0) (get_or (book_recordings s) y 0);
    }

-- ---- hidden cells (02, 2026-07)

-- Whether the word hides cell x: "a word whose bit i hides cell i".
abbrev pub hides : ℕ → ℕ → Bool
hides h x = bit h x

-- The cells that it does not hide.
abbrev pub showing : ℕ → ℕ → Bool
showing h x = not (hides h x)

-- Two words, of a left and of a right book.
abbrev pub hiding : ℕ → ℕ → Hidden
hiding left right = record { left = left; right = right }

-- "A word has a bit at or above its book's cell count" (refusal 31).
unfoldable pub hides_beyond : ℕ → List ℕ → Bool
hides_beyond h s = leb (2 ^ cells_of s) h

-- Whether a link touches no hidden cell.
unfoldable pub clear : ℕ → Link → Bool
clear h k = not (hides h k.from) && not (hides h k.to)

-- Of some links, in order, those that pass the test.
unfoldable pub kept : (Link → Bool) → List Link → List Link
kept p [] = []
kept p (k ∷ ks) = cond (p k) (k ∷ kept p ks) (kept p ks)

-- The links that are seen: "a hidden cell and all links at it count as absent".
abbrev pub seen_links : ℕ → List ℕ → List Link
seen_links h s = kept (clear h) (book_links s)

-- The recording of a cell as it is seen: a hidden one is silent.
unfoldable pub seen_recording : ℕ → List ℕ → ℕ → ℕ
seen_recording h s x = cond (hides h x) 0 (recording_at s x)

-- The recordings that are seen, for cells 0 to n-1.
abbrev pub seen_recordings : ℕ → List ℕ → List ℕ
seen_recordings h s = list (cells_of s) (seen_recording h s)

-- The data graph of a book whose cells the word h hides.
abbrev pub seen_of : ℕ → List ℕ → Graph
seen_of h s =
    record {
      size = cells_of s;
      shown = showing h;
      links = seen_links h s;
      ends = λ t x y. passes t (get_or (seen_recordings h s) x 0) (get_or (seen_recordings h s) y 0);
    }

-- x is a cell of the book that is not hidden.
abbrev pub Cell : ℕ → List ℕ → ℕ → Type 0
Cell h s = Node (seen_of h s)
