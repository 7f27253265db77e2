-- The setting of a comparison: what it depends on, and nothing else.
use Rattle.std.specs.Prelude.{Bool, ◌&&◌, ℕ, ◌*◌}
use Rattle.theory.specs.Graph.{Graph}
use Rattle.theory.specs.Bisimulation.{Relation, Sides}
use Rattle.theory.specs.Rounds.{after}

-- Two graphs, the sides that count, the bound, and the version of the sheet that is written.
pub record Setting : Type 0 where
  pub left : Graph
  pub right : Graph
  pub sides : Sides
  pub bound : ℕ
  pub version : ℕ

-- The setting seen from the other side.
abbrev pub swapped : Setting → Setting
swapped s = record { left = s.right; right = s.left; sides = s.sides; bound = s.bound; version = s.version }

-- Whether both nodes of a pair are shown.
abbrev pub shown_pair : Setting → ℕ → ℕ → Bool
shown_pair s a b = s.left.shown a && s.right.shown b

-- The number of places of the map ("n × m").
abbrev pub pairs : Setting → ℕ
pairs s = s.left.size * s.right.size

-- The relation after k rounds.
abbrev pub relation_after : Setting → ℕ → Relation
relation_after s = after s.sides s.left s.right s.bound
