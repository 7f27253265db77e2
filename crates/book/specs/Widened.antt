-- A book of either version in version 2 (02, 2026-02).
use Rattle.std.specs.Prelude.{List, [], ◌∷◌, ◌++◌, ℕ, zero, suc, ◌+◌, ◌*◌, take, drop}
use Rattle.fields.specs.Fields.{bytes_of}
use Rattle.theory.specs.Graph.{Link}
use Rattle.book.specs.Book.{cells_of, links_of, link_at}

-- e links with "2-byte labels".
unfoldable pub wide_links : ℕ → (ℕ → Link) → List ℕ
wide_links zero f = []
wide_links (suc e) f = ((f 0).from ∷ (bytes_of 2 (f 0).label ++ ((f 0).to ∷ []))) ++ wide_links e (λ i. f (suc i))

-- "L = 8 + 4 × n + 4 × e" and version 2; the counts and recordings as they are.
unfoldable pub wide_front : List ℕ → List ℕ
wide_front s = bytes_of 4 (8 + 4 * cells_of s + 4 * links_of s) ++ (2 ∷ take (3 + 4 * cells_of s) (drop 5 s))

-- The book of version 2 with the same cells and links.
abbrev pub widened : List ℕ → List ℕ
widened s = wide_front s ++ wide_links (links_of s) (link_at s)
