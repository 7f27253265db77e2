-- The links of a graph held as three lists of numbers, and what sets of nodes become along them.
-- A set of nodes is a word, whose bits are its nodes (01: "Truth sets of up to 64 cells are u64 words").
use Rattle.std.specs.Prelude.{Bool, false, cond, ◌&&◌, ◌≡◌, List, [], ◌∷◌, ℕ, ◌^◌, ◌≤◌, ◌<◌, eqb, ltb, get_or, set, replicate}
use Rattle.std.specs.Int.Bits.{bit_or}
use Rattle.theory.specs.Search.{any, list}
use Rattle.theory.specs.Graph.{Link, link}
use Rattle.words.specs.Words.{bit, word_of}

-- Link k: from, label and to are the numbers at k of the three lists.
abbrev pub edge_at : List ℕ → List ℕ → List ℕ → ℕ → Link
edge_at fs ls ts k = link (get_or fs k 0) (get_or ls k 0) (get_or ts k 0)

-- The first `count` links.
abbrev pub edges : ℕ → List ℕ → List ℕ → List ℕ → List Link
edges count fs ls ts = list count (edge_at fs ls ts)

-- A link walked backwards.
abbrev pub turn : Link → Link
turn k = link k.to k.label k.from

-- Each link walked backwards: what the three lists hold with those of from and to nodes exchanged.
unfoldable pub turned : List Link → List Link
turned [] = []
turned (k ∷ ks) = turn k ∷ turned ks

-- Lists of 512 hold `count` links, between nodes that a word has room for.
pub record Held (count : ℕ) (fs ts : List ℕ) : Type 0 where
  pub few : count ≤ 512
  pub from_low : (k : ℕ) → k < count → get_or fs k 0 < 64
  pub to_low : (k : ℕ) → k < count → get_or ts k 0 < 64

-- The nodes of `out`, and those that a link of the list with the label a leads to from a node of the set w.
unfoldable pub image : List Link → ℕ → ℕ → ℕ → ℕ
image [] a w out = out
image (k ∷ ks) a w out = image ks a w (cond (eqb k.label a && bit w k.from) (bit_or out (2 ^ k.to)) out)

-- Rows of sets, a row a node: each link of the list with the label a into the set w adds to the row of its from node, in `rows`, the
-- row of its to node, in `later`.
unfoldable pub gather : List Link → ℕ → ℕ → List ℕ → List ℕ → List ℕ
gather [] a w later rows = rows
gather (k ∷ ks) a w later rows =
    gather ks a w later
    (cond (eqb k.label a && bit w k.to) (set rows k.from (bit_or (get_or rows k.from 0) (get_or later k.to 0))) rows)

-- As many rows, each the empty set.
unfoldable pub empty_rows : ℕ → List ℕ
empty_rows size = replicate size 0

-- As many rows, of which the first m are f's and the others empty.
unfoldable pub rows_to : ℕ → ℕ → (ℕ → ℕ) → List ℕ
rows_to size m f = list size (λ x. cond (ltb x m) (f x) 0)

-- The rows are those that are gathered from rows `later`; where the answer is no they are all empty.
pub record Gathered (ks : List Link) (a w : ℕ) (later : List ℕ) (r : Bool) (rows : List ℕ) : Type 0 where
  pub is : rows ≡ gather ks a w later (empty_rows 64)
  pub none : r ≡ false → (x : ℕ) → get_or rows x 0 ≡ 0

-- Two words have a common node.
unfoldable pub meets : ℕ → ℕ → Bool
meets v w = any 64 (λ z. bit v z && bit w z)

-- Some node y of the first set and some node z of the second have bit z set in row y.
unfoldable pub any_passes : ℕ → ℕ → List ℕ → Bool
any_passes first second rows = any 64 (λ y. bit first y && meets second (get_or rows y 0))

-- The rows hold r: below n, row x is the word of the nodes y with r x y.
pub record Rows (n : ℕ) (r : ℕ → ℕ → Bool) (rows : List ℕ) : Type 0 where
  pub row : (x : ℕ) → x < n → get_or rows x 0 ≡ word_of n (r x)
