-- A book's links in three lists, and which of its cells pass a comparison, as rows of sets; h is the word of its hidden cells.
use Rattle.std.specs.Prelude.{◌≡◌, List, ℕ, length, get_or}
use Rattle.theory.specs.Graph.{Comparison, same, differ}
use Rattle.words.specs.Words.{word_of}
use Rattle.book.specs.Book.{cells_of}
use Rattle.book.specs.BookGraph.{passes, seen_links, seen_recording, seen_of}
use Rattle.edges.specs.Edges.{edges, Held, rows_to}

-- The lists, of 512, hold the links that are seen of the book, `count` of them.
pub record Loaded (h : ℕ) (s : List ℕ) (count : ℕ) (fs ls ts : List ℕ) : Type 0 where
  pub from_long : length fs ≡ 512
  pub label_long : length ls ≡ 512
  pub to_long : length ts ≡ 512
  pub held : Held count fs ts
  pub is : edges count fs ls ts ≡ seen_links h s

-- The recordings of the first m cells as they are seen, in a list of 64; the others are silent.
unfoldable pub recordings_to : ℕ → List ℕ → ℕ → List ℕ
recordings_to h s m = rows_to 64 m (seen_recording h s)

-- The recordings of all cells.
abbrev pub recordings : ℕ → List ℕ → List ℕ
recordings h s = recordings_to h s (cells_of s)

-- Of the first m cells with these recordings, those whose recording is the same as that of cell x.
unfoldable pub same_in : List ℕ → ℕ → ℕ → ℕ
same_in rs x m = word_of m (λ y. passes same (get_or rs x 0) (get_or rs y 0))

-- Of the first m cells of the book, those that pass the comparison with cell x.
unfoldable pub passing_to : ℕ → List ℕ → Comparison → ℕ → ℕ → ℕ
passing_to h s t x m = word_of m ((seen_of h s).ends t x)

-- Row x is the word of the cells that pass the comparison with cell x, for the first m cells; the other rows are empty.
unfoldable pub passing_rows : ℕ → List ℕ → Comparison → ℕ → List ℕ
passing_rows h s t m = rows_to 64 m (λ x. passing_to h s t x (cells_of s))

-- The rows of all cells.
abbrev pub passing : ℕ → List ℕ → Comparison → List ℕ
passing h s t = passing_rows h s t (cells_of s)

-- The rows of both comparisons.
pub record BothRows (h : ℕ) (s sames differs : List ℕ) : Type 0 where
  pub first : sames ≡ passing h s same
  pub second : differs ≡ passing h s differ
