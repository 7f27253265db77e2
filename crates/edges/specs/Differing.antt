-- Which cells differ, from rows of which are the same: two differ where both are heard and they are not the same, and a cell is heard where it is the
-- same as itself.
use Rattle.std.specs.Prelude.{cond, not, ◌&&◌, List, ℕ, eqb, get_or}
use Rattle.words.specs.Words.{bit, word_of}
use Rattle.edges.specs.Edges.{rows_to}

-- Of the first m rows, those that are not empty.
unfoldable pub filled : List ℕ → ℕ → ℕ
filled rows m = word_of m (λ x. not (eqb (get_or rows x 0) 0))

-- The cells that are heard, and not the same as one with this row; none where the row is empty.
unfoldable pub differ_row : ℕ → ℕ → ℕ
differ_row heard row = cond (eqb row 0) 0 (word_of 64 (λ y. bit heard y && not (bit row y)))

-- Row x is the word of the cells that differ from cell x, of n cells with these rows of the same, for the first m; the other rows are empty.
unfoldable pub differing_to : List ℕ → ℕ → ℕ → List ℕ
differing_to sames n m = rows_to 64 m (λ x. differ_row (filled sames n) (get_or sames x 0))

-- The rows of all cells.
abbrev pub differing : List ℕ → ℕ → List ℕ
differing sames n = differing_to sames n n
