-- Covering: which paths a search for two that fail may leave out. What follows stands in `CoveringLaws` of proofs/.
use Rattle.std.specs.Prelude.{◌≡◌, ℕ, ◌≤◌, length}
use Rattle.std.proofs.Math.Bool.{So}
use Rattle.theory.specs.Graph.{Graph}
use Rattle.theory.specs.Path.{Path, Walk, end}
use Rattle.theory.specs.Bisimulation.{Relation}
use Rattle.theory.specs.Rounds.{follow}

-- p covers p': they end at one node, the set of p is inside that of p', and p is no longer.
pub record Covers (r : Graph) (z : Relation) (a b : ℕ) (p p' : Path) : Type 0 where
  pub last : end a p ≡ end a p'
  pub set : (y : ℕ) → So (follow r z p b y) → So (follow r z p' b y)
  pub shorter : length p ≤ length p'

-- A kept path from a covers p.
abbrev pub Covered : Graph → Graph → Relation → ℕ → ℕ → (Path → Type 0) → Path → Type 0
Covered l r z a b Kept p = (p' : Path) × Kept p' × Walk l a p' × Covers r z a b p' p

-- Kept paths cover every path from a of at most c links.
pub record Enough (l r : Graph) (c : ℕ) (z : Relation) (a b : ℕ) (Kept : Path → Type 0) : Type 0 where
  pub each : (p : Path) → Walk l a p → length p ≤ c → Covered l r z a b Kept p
