-- Paths (source 000, definition 4: x → x₁ → .. → xₙ; 01: ways of cells).
use Rattle.std.specs.Prelude.{true, cond, ◌≡◌, List, [], ◌∷◌, ◌++◌, map, ℕ, zero, suc, eqb}
use Rattle.theory.specs.Graph.{Graph, Link, linked}

-- One link of a path, as seen from its start: the label, and the node that it leads to.
pub record Hop : Type 0 where
  pub label : ℕ
  pub to : ℕ

-- the hop by the label a to y
abbrev pub hop : ℕ → ℕ → Hop
hop a y = record { label = a; to = y }

-- A path, from a node that is said beside it.
abbrev pub Path : Type 0
Path = List Hop

-- The node where the path p from x ends.
unfoldable pub end : ℕ → Path → ℕ
end x [] = x
end x (h ∷ p) = end h.to p

-- p is a path of g from x: each hop is a link.
unfoldable pub Walk : Graph → ℕ → Path → Type 0
Walk g x [] = Unit {0}
Walk g x (h ∷ p) = (linked g x h.label h.to ≡ true) × Walk g h.to p

-- The hops out of x.
unfoldable pub out : List Link → ℕ → List Hop
out [] x = []
out (k ∷ ks) x = cond (eqb k.from x) (hop k.label k.to ∷ out ks x) (out ks x)

-- Each hop of the list, before each path that the function gives from its node.
unfoldable pub onward : (ℕ → List Path) → List Hop → List Path
onward f [] = []
onward f (h ∷ hs) = map (λ p. h ∷ p) (f h.to) ++ onward f hs

-- The paths of at most k links from x, as a list.
unfoldable pub paths : ℕ → Graph → ℕ → List Path
paths zero g x = [] ∷ []
paths (suc k) g x = [] ∷ onward (λ y. paths k g y) (out g.links x)
