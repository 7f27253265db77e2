-- A book without silent cells is source 000's data graph (02, 2026-04: "Where no cell is silent, this request changes nothing").
use Rattle.std.specs.Prelude.{List, ◌≢◌, ◌≡◌, ℕ, ◌<◌}
use Rattle.std.proofs.Common.{◌∙◌}
use borrow.Author.Tests.{ne_eqb}
use Rattle.theory.specs.Graph.{Comparison, same, differ, compared, data_graph}
use Rattle.theory.specs.Expression.{NodeExpr}
use Rattle.theory.specs.Meaning.{holds}
use Rattle.theory.proofs.EndsLaws.{holds_alike}
use Rattle.book.specs.Book.{cells_of, recording_at}
use Rattle.book.specs.BookGraph.{heard, passes, book_links, graph_of}
use Rattle.book.specs.AcceptedLaws.{book_ends}

module _ (s : List ℕ) (sounds : (x : ℕ) → x < cells_of s → recording_at s x ≢ 0) where
  -- its comparisons are those of the data graph,
  pub heard_ends : (t : Comparison) (x y : ℕ) → x < cells_of s → y < cells_of s → (graph_of s).ends t x y ≡ (data_graph (cells_of s) (book_links s) (recording_at s)).ends t x y
  unfolding passes heard compared
  heard_ends same x y h l = book_ends s same x y h l ∙ rw (ne_eqb (recording_at s x) 0 (sounds x h), ne_eqb (recording_at s y) 0 (sounds y l))
  heard_ends differ x y h l = book_ends s differ x y h l ∙ rw (ne_eqb (recording_at s x) 0 (sounds x h), ne_eqb (recording_at s y) 0 (sounds y l))

  -- and so every question has the truth there that source 000 gives it
  pub heard_holds : (q : NodeExpr) (x : ℕ) → holds (graph_of s) q x ≡ holds (data_graph (cells_of s) (book_links s) (recording_at s)) q x
  heard_holds = holds_alike (graph_of s) _ heard_ends
