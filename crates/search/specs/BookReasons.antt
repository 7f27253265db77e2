-- An accepted book, as the search reads it.
use Rattle.std.specs.Prelude.{◌≡◌, List, ℕ}
use Rattle.theory.specs.Graph.{same, differ}
use Rattle.book.specs.Book.{book_refusal}
use Rattle.edges.specs.BookEdges.{Loaded, passing}
use Rattle.search_links.specs.Hops.{Starts}
use Rattle.search_links.specs.Sets.{Paired}

-- The lists hold what is seen of an accepted book whose hidden cells are those of the word h: `count` links (`edges::load`), their table of starts
-- (`search_links::starts`), and the rows of the cells that pass each comparison (`edges::passing`, `search_links::paired`).
pub record Read (h : ℕ) (s : List ℕ) (count : ℕ) (fs ls ts starts ends : List ℕ) : Type 0 where
  pub accepted : book_refusal s ≡ 0
  pub loaded : Loaded h s count fs ls ts
  pub table : Starts count fs starts
  pub rows : Paired (passing h s same) (passing h s differ) ends
