-- Data graphs (source 000, section 2; 01: books, with their cells, links and recordings), as far as a node expression sees them.
use Rattle.std.specs.Prelude.{Bool, true, false, not, ◌&&◌, ◌||◌, List, [], ◌∷◌, ℕ, ◌<◌, eqb}
use Rattle.std.proofs.Math.Bool.{So}

-- What may be asked of the data values at two ends (000: =, ≠; 01: same, differ).
pub data Comparison : Type 0 where
  same differ : Comparison

-- Every comparison that there is.
unfoldable pub comparisons : List Comparison
comparisons = same ∷ differ ∷ []

-- An edge (000: a triple of E; 01: link): from a node, by a label, to a node.
pub record Link : Type 0 where
  pub from : ℕ
  pub label : ℕ
  pub to : ℕ

-- the link from x by the label a to y
abbrev pub link : ℕ → ℕ → ℕ → Link
link x a y = record { from = x; label = a; to = y }

-- A data graph: its nodes are the numbers below its size that are shown (01: cells; 02, 2026-07: those that are not hidden).
-- Of the data values an expression sees only which two nodes pass a comparison, so a graph says no more of them.
pub record Graph : Type 0 where
  pub size : ℕ
  pub shown : ℕ → Bool
  pub links : List Link
  pub ends : Comparison → ℕ → ℕ → Bool

-- x is a node of the graph.
pub record Node (g : Graph) (x : ℕ) : Type 0 where
  pub below : x < g.size
  pub seen : So (g.shown x)

-- Which two nodes pass a comparison where `value` gives each node its data value (000: data; 01: its recording).
unfoldable pub compared : (ℕ → ℕ) → Comparison → ℕ → ℕ → Bool
compared value same x y = eqb (value x) (value y)
compared value differ x y = not (eqb (value x) (value y))

-- The data graph ⟨G, E, data⟩ of 000, with n nodes.
abbrev pub data_graph : ℕ → List Link → (ℕ → ℕ) → Graph
data_graph n ks value = record { size = n; shown = λ x. true; links = ks; ends = compared value }

-- Every link has both its nodes below n.
unfoldable pub Inside : ℕ → List Link → Type 0
Inside n [] = Unit {0}
Inside n (k ∷ ks) = (k.from < n) × (k.to < n) × Inside n ks

-- The list has the link from x by the label a to y.
unfoldable pub has : List Link → ℕ → ℕ → ℕ → Bool
has [] x a y = false
has (k ∷ ks) x a y = (eqb k.from x && (eqb k.label a && eqb k.to y)) || has ks x a y

-- There is a link from x by the label a to y (000: (x, a, y) ∈ E).
abbrev pub linked : Graph → ℕ → ℕ → ℕ → Bool
linked g = has g.links

-- A graph whose links stay among its nodes (000: E ⊆ G × A × G).
pub record WellFormed (g : Graph) : Type 0 where
  pub inside : Inside g.size g.links
  pub seen : (x a y : ℕ) → So (linked g x a y) → So (g.shown x) × So (g.shown y)
