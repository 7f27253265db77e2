-- The relation that a comparison's map tells, in words: a set of right cells for each left cell, and a set of left cells for each right one.
use Rattle.std.specs.Prelude.{List, ◌≡◌, ℕ, ◌*◌, ◌≤◌, ◌<◌, length, get_or}
use Rattle.theory.specs.Bisimulation.{Relation}
use Rattle.words.specs.Words.{bit, word_of}
use Rattle.edges.specs.Edges.{rows_to}
use Rattle.answers.specs.Row.{row_word}

-- The map is of n left and m right cells (01: "map place i × m + j"), as many as a word has room for.
pub record Mapped (map : List ℕ) (n m : ℕ) : Type 0 where
  pub few : n ≤ 64
  pub some : 1 ≤ m
  pub most : m ≤ 64
  pub size : length map ≡ n * m

-- Row i is the word of the right cells whose place in row i of the map holds 0.
unfoldable pub rows_of : List ℕ → ℕ → ℕ → List ℕ
rows_of map n m = rows_to 64 n (row_word map m)

-- The word of the left cells, of n, whose row has j.
unfoldable pub column_of : List ℕ → ℕ → ℕ → ℕ
column_of rows n j = word_of n (λ i. bit (get_or rows i 0) j)

-- Row j is the word of the left cells whose row has j.
unfoldable pub columns_of : List ℕ → ℕ → ℕ → List ℕ
columns_of rows n m = rows_to 64 m (column_of rows n)

-- The rows tell the relation z of n left and m right nodes.
pub record Tells (n m : ℕ) (z : Relation) (rows : List ℕ) : Type 0 where
  pub bits : (x y : ℕ) → x < n → y < m → bit (get_or rows x 0) y ≡ z x y
