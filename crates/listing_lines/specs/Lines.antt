-- The lines of a listing (01, P1: "sizes and bound; each left cell with its count and word; totals"), as bytes.
use Rattle.std.specs.Prelude.{not, List, [], ◌++◌, ◌≡◌, ℕ, zero, suc, ◌+◌, ◌*◌, ◌≤◌, length}
use Rattle.theory.specs.Bisimulation.{Relation}
use Rattle.text.specs.Text.{ascii, labelled, ending, Wrote}
use Rattle.words.specs.Words.{tally, word_of}
use Rattle.listing_lines.specs.declared.Rows.{Rows}

-- "books 3 2 bound 1": the left and the right book's cells, and the bound.
abbrev pub head_line : ℕ → ℕ → ℕ → List ℕ
head_line n m c = labelled (ascii "books ") n ++ labelled (ascii " ") m ++ ending (ascii " bound ") c

-- "row 1 count 1 word 2": a left cell, how many right cells are matched to it, and the word of these.
abbrev pub row_line : ℕ → ℕ → ℕ → List ℕ
row_line i count word = labelled (ascii "row ") i ++ labelled (ascii " count ") count ++ ending (ascii " word ") word

-- "matched 2 parted 4": how many pairs are matched, and how many are parted.
abbrev pub total_line : ℕ → ℕ → List ℕ
total_line matched parted = labelled (ascii "matched ") matched ++ ending (ascii " parted ") parted

-- The line of left cell i, where z says which pairs are matched and there are m right cells.
abbrev pub cell_line : ℕ → Relation → ℕ → List ℕ
cell_line m z i = row_line i (tally m (z i)) (word_of m (z i))

-- The lines of the left cells below n.
unfoldable pub row_lines : ℕ → ℕ → Relation → List ℕ
row_lines zero m z = []
row_lines (suc n) m z = row_lines n m z ++ cell_line m z n

-- How many pairs of a left cell below n and a right cell below m are in z.
unfoldable pub pairs_in : ℕ → ℕ → Relation → ℕ
pairs_in zero m z = 0
pairs_in (suc n) m z = pairs_in n m z + tally m (z n)

-- The whole listing of n left and m right cells at the bound c, where z says which pairs are matched.
unfoldable pub pair_lines : ℕ → ℕ → ℕ → Relation → List ℕ
pair_lines n m c z = head_line n m c ++ row_lines n m z ++ total_line (pairs_in n m z) (pairs_in n m (λ i j. not (z i j)))

-- The most bytes of the line of sizes, its numbers having up to 20 digits.
abbrev pub head_most : ℕ
head_most = 75

-- The most bytes of a cell's line.
abbrev pub row_most : ℕ
row_most = 78

-- The most bytes of the line of totals.
abbrev pub total_most : ℕ
total_most = 57

-- The most bytes of a listing of n left cells.
abbrev pub pair_most : ℕ → ℕ
pair_most n = head_most + row_most * n + total_most

-- The map has a place for each pair of n left and m right cells, m being 1 to 64.
pub record Sized (map : List ℕ) (n m : ℕ) : Type 0 where
  pub some : 1 ≤ m
  pub most : m ≤ 64
  pub places : n * m ≤ length map

-- Row lines were written from `at` on, and tell of `count` matched pairs.
pub record WroteRows (out : List ℕ) (at : ℕ) (text : List ℕ) (most count : ℕ) (exit : List ℕ) (r : Rows) : Type 0 where
  pub wrote : Wrote out at text most exit r.end
  pub counted : r.matched ≡ count
