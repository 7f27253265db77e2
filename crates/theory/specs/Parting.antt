-- What distinguishes two nodes, what describes a node, and why a pair fails: the notions between clauses and expressions.
use Rattle.std.specs.Prelude.{true, false, ◌&&◌, [], ◌∷◌, ◌≡◌, ℕ, ◌≤◌, length}
use Rattle.theory.specs.Search.{any}
use Rattle.theory.specs.Graph.{Comparison, Graph, Node, linked}
use Rattle.theory.specs.Expression.{PathExpr, NodeExpr, stay, step, test, seq, exists, compare}
use Rattle.theory.specs.Meaning.{holds}
use Rattle.theory.specs.Bound.{Within, depth}
use Rattle.theory.specs.Path.{Hop, Path, Walk, end}
use Rattle.theory.specs.Bisimulation.{Relation, Sides, Spoken}
use Rattle.theory.specs.Rounds.{met}

-- The expression distinguishes a from b (01: parts them): within the bound c, one-sided without "not" (`Spoken`), true at a in l and false at b in r.
pub record Tells (s : Sides) (l r : Graph) (c a b : ℕ) (q : NodeExpr) : Type 0 where
  pub within : Within c q
  pub spoken : Spoken s q
  pub left : holds l q a ≡ true
  pub right : holds r q b ≡ false

-- "The smallest depth of any question within the bound that is true left and false right. One-way, the smallest among those without "not"" (02, 2026-06):
-- d is the depth of one, and none is less deep.
pub record LeastDepth (s : Sides) (l r : Graph) (c a b d : ℕ) : Type 0 where
  pub some : (q : NodeExpr) × Tells s l r c a b q × (depth q ≡ d)
  pub least : (q : NodeExpr) → Tells s l r c a b q → d ≤ depth q

-- The expression distinguishes a from b, and is at most d deep.
pub record Parts (s : Sides) (l r : Graph) (c d a b : ℕ) (q : NodeExpr) : Type 0 where
  pub tells : Tells s l r c a b q
  pub shallow : depth q ≤ d

-- The expression describes x among some nodes of r: within the bound c, at most d deep, true at x in l, and of those nodes only at such as z relates to x.
pub record Describes (s : Sides) (l r : Graph) (c d : ℕ) (z : Relation) (x : ℕ) (among : ℕ → Type 0) (q : NodeExpr) : Type 0 where
  pub within : Within c q
  pub spoken : Spoken s q
  pub shallow : depth q ≤ d
  pub own : holds l q x ≡ true
  pub only : (y : ℕ) → among y → holds r q y ≡ true → z x y ≡ true

-- chi describes every node of l among all nodes of r.
abbrev pub Described : Sides → Graph → Graph → ℕ → ℕ → Relation → (ℕ → NodeExpr) → Type 0
Described s l r c d z chi = (x : ℕ) → Node l x → Describes s l r c d z x (Node r) (chi x)

-- Some expressions describe every node of l.
abbrev pub Describable : Sides → Graph → Graph → ℕ → ℕ → Relation → Type 0
Describable s l r c d z = (chi : ℕ → NodeExpr) × Described s l r c d z chi

-- The path expression that takes the path's labels in order, and tests each node by what describes it.
unfoldable pub path_expr : (ℕ → NodeExpr) → Path → PathExpr
path_expr chi [] = stay
path_expr chi (h ∷ p) = seq (step h.label) (seq (test (chi h.to)) (path_expr chi p))

-- Why the clauses of a pair fail from left to right: a link, or two paths and a comparison.
pub data Reason : Type 0 where
  by_link : Hop → Reason
  by_paths : Comparison → Path → Path → Reason

-- The link is one from a, and none from b with its label leads to a node related to its target.
pub record LinkFails (l r : Graph) (z : Relation) (a b : ℕ) (h : Hop) : Type 0 where
  pub there : linked l a h.label h.to ≡ true
  pub missing : any r.size (λ b'. linked r b h.label b' && z h.to b') ≡ false

-- The paths are two from a of at most c links whose ends pass the comparison, without counterpart from b.
pub record PathsFail (l r : Graph) (c : ℕ) (z : Relation) (a b : ℕ) (t : Comparison) (p q : Path) : Type 0 where
  pub short : length p ≤ c
  pub short' : length q ≤ c
  pub walk : Walk l a p
  pub walk' : Walk l a q
  pub ends : l.ends t (end a p) (end a q) ≡ true
  pub missing : met r z b t p q ≡ false

-- The reason is one, for the pair (a, b).
abbrev pub Fails : Graph → Graph → ℕ → Relation → ℕ → ℕ → Reason → Type 0
Fails l r c z a b (by_link h) = LinkFails l r z a b h
Fails l r c z a b (by_paths t p q) = PathsFail l r c z a b t p q

-- The expression that a reason gives: "there is a way" along the link, or the comparison of the two ways.
unfoldable pub asked : (ℕ → NodeExpr) → Reason → NodeExpr
asked chi (by_link h) = exists (path_expr chi (h ∷ []))
asked chi (by_paths t p q) = compare t (path_expr chi p) (path_expr chi q)
