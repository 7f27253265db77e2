-- Books of one content (02, 2026-02: "Version 1 is still read, its labels as the same numbers"), and books of which the same is seen (02, 2026-07).
use Rattle.std.specs.Prelude.{true, false, List, ◌≡◌, ℕ, ◌<◌}
use Rattle.theory.specs.Graph.{link, has}
use Rattle.book.specs.Book.{version_of, cells_of, links_of, recording_at, link_at}
use Rattle.book.specs.BookGraph.{book_links, hides, clear}

-- Two books with the same cells and links, of one version or of two.
pub record SameContents (s t : List ℕ) : Type 0 where
  pub cells : cells_of s ≡ cells_of t
  pub recordings : (x : ℕ) → x < cells_of s → recording_at s x ≡ recording_at t x
  pub links : links_of s ≡ links_of t
  pub each : (k : ℕ) → k < links_of s → link_at s k ≡ link_at t k

-- Two books of one version "that keep cell count, version and word, and differ only in recordings of hidden cells and links touching them":
-- cells that h does not hide have the same recordings, and a link that touches no hidden cell is in both or in neither.
pub record SameSeen (h : ℕ) (s t : List ℕ) : Type 0 where
  pub cells : cells_of s ≡ cells_of t
  pub version : version_of s ≡ version_of t
  pub recordings : (x : ℕ) → x < cells_of s → hides h x ≡ false → recording_at s x ≡ recording_at t x
  pub links : (x a y : ℕ) → clear h (link x a y) ≡ true → has (book_links s) x a y ≡ has (book_links t) x a y
