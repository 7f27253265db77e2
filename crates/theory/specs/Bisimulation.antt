-- Simulations and bisimulations for a bound (source 000, definition 4 and section 5.1 at a constant; 01, "Partners").
use Rattle.std.specs.Prelude.{Bool, true, cond, ◌≡◌, [], ◌∷◌, ℕ, ◌≤◌, length}
use Rattle.theory.specs.Graph.{Comparison, Graph, Node, linked}
use Rattle.theory.specs.Expression.{NodeExpr, Positive}
use Rattle.theory.specs.Path.{Path, Walk, end}

-- A relation between the nodes of a left and a right graph, as a test.
abbrev pub Relation : Type 0
Relation = ℕ → ℕ → Bool

-- The same relation from the other side.
abbrev pub flip : Relation → Relation
flip z b a = z a b

-- Any relation at all, computed or not: for each two nodes, what it is for them to be related.
abbrev pub Pairs : Type 1
Pairs = ℕ → ℕ → Type 0

-- The pairs that pass a test.
abbrev pub pairs : Relation → Pairs
pairs z a b = z a b ≡ true

-- Every pair of z is one of y.
abbrev pub Under : Pairs → Pairs → Type 0
Under z y = (a b : ℕ) → z a b → y a b

-- Two paths "with the same labels in order, cells related place by place".
unfoldable pub Alike : Pairs → Path → Path → Type 0
Alike z [] [] = Unit {0}
Alike z [] (k ∷ q) = ⊥
Alike z (h ∷ p) [] = ⊥
Alike z (h ∷ p) (k ∷ q) = (h.label ≡ k.label) × z h.to k.to × Alike z p q

-- A path of r from b to y that is alike to p.
pub record Image (r : Graph) (z : Pairs) (p : Path) (b y : ℕ) : Type 0 where
  pub path : Path
  pub walk : Walk r b path
  pub alike : Alike z p path
  pub last : end b path ≡ y

-- Two paths of r from b, alike to p and to q, whose ends pass the comparison t.
pub record Counterpart (r : Graph) (z : Pairs) (t : Comparison) (b : ℕ) (p q : Path) : Type 0 where
  pub y : ℕ
  pub y' : ℕ
  pub first : Image r z p b y
  pub second : Image r z q b y'
  pub ends : r.ends t y y' ≡ true

-- The clauses for the pair (a, b) from left to right.
--   two (000: Zig=): two paths from a of at most c links whose ends pass a comparison have a counterpart from b;
--   one (000: Zig): a link from a has a link from b with its label, its target related.
pub record Zig (l r : Graph) (c : ℕ) (z : Pairs) (a b : ℕ) : Type 0 where
  pub two : (t : Comparison) (p q : Path) → length p ≤ c → length q ≤ c → Walk l a p → Walk l a q
      → l.ends t (end a p) (end a q) ≡ true → Counterpart r z t b p q
  pub one : (label y : ℕ) → linked l a label y ≡ true
      → (y' : ℕ) × (linked r b label y' ≡ true) × z y y'

-- A relation among the nodes for whose pairs the clauses hold from left to right.
pub record Simulation (l r : Graph) (c : ℕ) (z : Pairs) : Type 0 where
  pub left : (a b : ℕ) → z a b → Node l a
  pub right : (a b : ℕ) → z a b → Node r b
  pub zig : (a b : ℕ) → z a b → Zig l r c z a b

-- "Both hold with the sides exchanged" (000: Zag=, Zag).
pub record Bisimulation (l r : Graph) (c : ℕ) (z : Pairs) : Type 0 where
  pub forth : Simulation l r c z
  pub back : Simulation r l c (λ b a. z a b)

-- Which clauses a relation is held to: those from left to right, or those of both sides.
pub data Sides : Type 0 where
  one_sided two_sided : Sides

-- Both sides, or the left one alone.
abbrev pub sides_of : Bool → Sides
sides_of both = cond both two_sided one_sided

-- A simulation or a bisimulation.
abbrev pub Sided : Sides → Graph → Graph → ℕ → Pairs → Type 0
Sided one_sided = Simulation
Sided two_sided = Bisimulation

-- What a simulation keeps are the positive expressions, and what a bisimulation keeps are all (000, proposition 13).
abbrev pub Spoken : Sides → NodeExpr → Type 0
Spoken s q = s ≡ one_sided → Positive q

-- z is one, and every other, computed or not, lies within it (000, proposition 6).
pub record Greatest (s : Sides) (l r : Graph) (c : ℕ) (z : Relation) : Type 1 where
  pub is : Sided s l r c (pairs z)
  pub most : (y : Pairs) → Sided s l r c y → Under y (pairs z)
