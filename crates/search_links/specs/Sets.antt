-- The sets of nodes that the search computes, as words.
use Rattle.std.specs.Prelude.{Bool, true, false, cond, ◌&&◌, ◌||◌, ◌≡◌, ◌⊎◌, List, [], ◌∷◌, ℕ, zero, suc, ◌+◌, ◌-◌, ◌*◌, ◌<◌, eqb, get_or}
use Rattle.std.proofs.Math.Bool.{So}
use Rattle.theory.specs.Search.{any}
use Rattle.theory.specs.Path.{Hop}
use Rattle.words.specs.Words.{bit, word_of}
use Rattle.search_links.specs.declared.LabelRow.{LabelRow}
use Rattle.search_links.specs.Hops.{View, hops_of, LeastLabel}

-- One of the hops is by the label a to y.
unfoldable pub among : List Hop → ℕ → ℕ → Bool
among [] a y = false
among (h ∷ hs) a y = (eqb h.label a && eqb h.to y) || among hs a y

-- The nodes that the hops reach by the label a.
unfoldable pub reached : List Hop → ℕ → ℕ
reached hs a = word_of 64 (among hs a)

-- The row of node x by the label a, and of the labels above a of the links out of it, and of `best`, the smallest.
pub record RowBy (v : View) (x a best : ℕ) (r : LabelRow) : Type 0 where
  pub set : r.set ≡ reached (hops_of v x) a
  pub next : LeastLabel v x (a + 1) best r.next

-- One of n links from link k on leads to a node of w.
unfoldable pub meets : List ℕ → ℕ → ℕ → ℕ → Bool
meets to w k zero = false
meets to w k (suc n) = bit w (get_or to k 0) || meets to w (suc k) n

-- A link out of node x leads to a node of w.
abbrev pub leads_to : List ℕ → List ℕ → ℕ → ℕ → Bool
leads_to starts to w x = meets to w (get_or starts x 0) (get_or starts (x + 1) 0 - get_or starts x 0)

-- The union of the rows of the nodes of w.
unfoldable pub spread : (ℕ → ℕ) → ℕ → ℕ
spread row w = word_of 64 (λ y. any 64 (λ x. bit w x && bit (row x) y))

-- The nodes that a link with the label a leads to from a node of w.
abbrev pub image_of : View → ℕ → ℕ → ℕ
image_of v w a = spread (λ x. reached (hops_of v x) a) w

-- Row x of comparison t, in a table of the rows of both: 0 same, 1 differ.
abbrev pub row_at : List ℕ → ℕ → ℕ → ℕ
row_at ends t x = get_or ends (64 * t + x) 0

-- The table has the rows of both comparisons.
pub record Paired (same differ ends : List ℕ) : Type 0 where
  pub first : (x : ℕ) → x < 64 → row_at ends 0 x ≡ get_or same x 0
  pub second : (x : ℕ) → x < 64 → row_at ends 1 x ≡ get_or differ x 0

-- Comparisons go by a value: nodes that pass same pass each comparison with the same nodes, they pass it from both sides, and a node that passes some
-- comparison passes same with itself.
pub record Valued (ends : List ℕ) : Type 0 where
  pub alike : (t x y z : ℕ) → t < 2 → x < 64 → y < 64 → So (bit (row_at ends 0 x) y) → So (bit (row_at ends t y) z) → So (bit (row_at ends t x) z)
  pub turned : (t x y : ℕ) → t < 2 → x < 64 → y < 64 → So (bit (row_at ends t x) y) → So (bit (row_at ends t y) x)
  pub own : (t x y : ℕ) → t < 2 → x < 64 → y < 64 → So (bit (row_at ends t x) y) → So (bit (row_at ends 0 x) x)

-- The nodes that pass same with a node of w: what comparisons see of w.
abbrev pub sharing : List ℕ → ℕ → ℕ
sharing ends w = spread (row_at ends 0) w

-- Node y stands in for node x: it is that node or, where tips are widened, one that passes same with it. Comparisons see no difference.
abbrev pub StandsIn : List ℕ → Bool → ℕ → ℕ → Type 0
StandsIn ends wide x y = (x ≡ y) ⊎ ((wide ≡ true) × So (bit (row_at ends 0 x) y))

-- A set as it is, or widened to what comparisons see of it.
unfoldable pub seen_as : List ℕ → Bool → ℕ → ℕ
seen_as ends wide w = cond wide (sharing ends w) w
