-- The comparison as it is computed, on entries and numbers: what holds between the steps, and what is promised in the end.
use Rattle.std.specs.Prelude.{false, List, ◌↔◌, ◌≢◌, ◌≡◌, ℕ, suc, ◌+◌, ◌*◌, ◌<◌, ◌≤◌, length, get_or, set}
use Rattle.std.proofs.Math.Bool.{So}
use Rattle.theory.specs.Graph.{Node, WellFormed}
use Rattle.theory.specs.Expression.{NodeExpr}
use Rattle.theory.specs.Bound.{depth}
use Rattle.theory.specs.Bisimulation.{Relation, flip, two_sided}
use Rattle.theory.specs.Rounds.{related, settled}
use Rattle.theory.specs.Parting.{Tells, LeastDepth, Parts, Describes, Described, Fails}
use Rattle.theory.specs.Choosing.{Symmetric}
use Rattle.sheet.specs.Entry.{Entry, expression}
use Rattle.sheet.specs.Sheet.{most_version, most_bound, hidden_place}
use Rattle.sheet.specs.Encoding.{encode}
use Rattle.compare_laws.specs.Places.{placed, unparted, unparted_before, nonzeros}
use Rattle.compare_laws.specs.Setting.{Setting, swapped, shown_pair, pairs, relation_after}
use Rattle.compare_laws.specs.Comparison.{State, Cause, ahead, back, states, state_at, comparison}
use Rattle.compare_laws.specs.Room.{pair_entries, pair_bytes}
use Rattle.compare_laws.specs.Entries.{Sheet, Grows, Narrow}

-- ---- what a comparison asks of its setting

-- The graphs are as books have them, and the bound is one of 01's.
pub record Comparable (s : Setting) : Type 0 where
  pub formed : WellFormed s.left × WellFormed s.right
  pub symmetric : Symmetric s.left × Symmetric s.right
  pub narrow : Narrow s.version s.left × Narrow s.version s.right
  pub version : (1 ≤ s.version) × (s.version ≤ most_version)
  pub some : (1 ≤ s.left.size) × (1 ≤ s.right.size)
  pub small : (s.left.size ≤ 64) × (s.right.size ≤ 64)
  pub bound : s.bound ≤ most_bound

-- ---- what holds between the steps

-- The clause that the cause names does not hold of the pair, under the relation z.
abbrev pub Caused : Setting → Relation → ℕ → ℕ → Cause → Type 0
Caused s z a b (ahead why) = Fails s.left s.right s.bound z a b why
Caused s z a b (back why) = Fails s.right s.left s.bound (flip z) b a why

-- The expression parts (a, b), and is at most d deep.
abbrev pub PartsPair : Setting → ℕ → ℕ → ℕ → NodeExpr → Type 0
PartsPair s = Parts s.sides s.left s.right s.bound

-- The expression describes the left node x among some right nodes, and is at most d deep.
abbrev pub DescribesNode : Setting → ℕ → Relation → ℕ → (ℕ → Type 0) → NodeExpr → Type 0
DescribesNode s = Describes s.sides s.left s.right s.bound

-- The numbers xs name, for each left node, an entry that describes it (and for each other number below the size some entry).
pub record DescribedBy (s : Setting) (d : ℕ) (z : Relation) (es : List Entry) (xs : List ℕ) : Type 0 where
  pub wide : s.left.size ≤ length xs
  pub earlier : (x : ℕ) → x < s.left.size → get_or xs x 0 < length es
  pub describes : Described s.sides s.left s.right s.bound d z (λ x. expression es (get_or xs x 0))

-- Entry i parts (a, b), no deeper than the round that dropped the pair.
pub record Named (s : Setting) (es : List Entry) (a b i : ℕ) : Type 0 where
  pub number : i < length es
  pub round : ℕ
  pub before : So (relation_after s round a b)
  pub parts : PartsPair s (suc round) a b (expression es i)

-- The invariant: what holds in round k + 1, before place p.
pub record Refined (s : Setting) (k p : ℕ) (now : State) : Type 0 where
  -- the state is the one that the definition has there
  pub is : now ≡ state_at s k p
  pub sheet : Sheet s.version s.bound now.entries
  pub few : length now.entries ≤ 1 + pair_entries * nonzeros now.map
  pub room : length (encode s.version now.entries) ≤ 2 + pair_bytes s.version * nonzeros now.map
  pub size : length now.map ≡ pairs s
  -- the places before p are as round k + 1 leaves them, the others as round k did
  pub settled : (a b : ℕ) → a < s.left.size → b < s.right.size → a * s.right.size + b < p → unparted s.right.size now.map a b ≡ relation_after s (suc k) a b
  pub waiting : (a b : ℕ) → a < s.left.size → b < s.right.size → p ≤ a * s.right.size + b → unparted s.right.size now.map a b ≡ relation_after s k a b
  pub named : (a b : ℕ) → Node s.left a → Node s.right b → unparted s.right.size now.map a b ≡ false
      → Named s now.entries a b (placed s.right.size now.map a b)
  -- a place of a node that is not shown is as it was
  pub hidden : (a b : ℕ) → a < s.left.size → b < s.right.size → shown_pair s a b ≡ false → placed s.right.size now.map a b ≡ hidden_place
  -- the relation that the round began with, by the map
  pub began : (a b : ℕ) → Node s.left a → Node s.right b → unparted_before s.right.size (length (states s k).entries) now.map a b ≡ relation_after s k a b
  pub from : length (states s k).entries ≤ length now.entries
  -- the old numbers describe the nodes for that relation, the new ones for the zeros of the map
  pub old_left : DescribedBy s k (relation_after s k) now.entries now.old_left
  pub old_right : s.sides ≡ two_sided → DescribedBy (swapped s) k (flip (relation_after s k)) now.entries now.old_right
  pub new_left : DescribedBy s (suc k) (unparted s.right.size now.map) now.entries now.new_left
  pub new_right : s.sides ≡ two_sided → DescribedBy (swapped s) (suc k) (flip (unparted s.right.size now.map)) now.entries now.new_right

-- The numbers xs' are xs but for x, which another entry describes.
pub record Redescribed (s : Setting) (d : ℕ) (z : Relation) (es : List Entry) (xs xs' : List ℕ) (x : ℕ) : Type 0 where
  pub entry : ℕ
  pub is : xs' ≡ set xs x entry
  pub number : entry < length es
  pub describes : DescribesNode s d z x (Node s.right) (expression es entry)

-- What a step for the pair (a, b) in round k + 1 has to leave: a new entry i that parts it, and a and b described without it.
pub record Written (s : Setting) (k a b : ℕ) (now next : State) (i : ℕ) : Type 0 where
  pub sheet : Sheet s.version s.bound next.entries
  pub grows : Grows now.entries next.entries
  pub few : length next.entries ≤ length now.entries + pair_entries
  pub room : length (encode s.version next.entries) ≤ length (encode s.version now.entries) + pair_bytes s.version
  pub map : next.map ≡ set now.map (a * s.right.size + b) i
  pub fresh : length now.entries ≤ i
  pub number : i < length next.entries
  pub parts : PartsPair s (suc k) a b (expression next.entries i)
  pub old_left : next.old_left ≡ now.old_left
  pub old_right : next.old_right ≡ now.old_right
  pub new_left : Redescribed s (suc k) (unparted s.right.size next.map) next.entries now.new_left next.new_left a
  pub new_right : s.sides ≡ two_sided
      → Redescribed (swapped s) (suc k) (flip (unparted s.right.size next.map)) next.entries now.new_right next.new_right b

-- ---- what is promised in the end

-- The zeros of the map are the matched pairs. Of two nodes every other number names an expression that parts them, of the smallest depth of those that do;
-- the places of a node that is not shown hold `hidden_place`.
pub record Compared (s : Setting) (es : List Entry) (map : List ℕ) : Type 0 where
  pub entries : es ≡ (comparison s).entries
  pub places : map ≡ (comparison s).map
  pub sheet : Sheet s.version s.bound es
  pub few : length es ≤ 1 + pair_entries * nonzeros map
  pub room : length (encode s.version es) ≤ 2 + pair_bytes s.version * nonzeros map
  pub size : length map ≡ pairs s
  pub zeros : (a b : ℕ) → a < s.left.size → b < s.right.size → (placed s.right.size map a b ≡ 0) ↔ So (related (settled s.sides s.left s.right s.bound) a b)
  pub hidden : (a b : ℕ) → a < s.left.size → b < s.right.size → shown_pair s a b ≡ false → placed s.right.size map a b ≡ hidden_place
  pub number : (a b : ℕ) → Node s.left a → Node s.right b → placed s.right.size map a b ≢ 0 → placed s.right.size map a b < length es
  pub tells : (a b : ℕ) → Node s.left a → Node s.right b → placed s.right.size map a b ≢ 0
      → Tells s.sides s.left s.right s.bound a b (expression es (placed s.right.size map a b))
  pub least : (a b : ℕ) → Node s.left a → Node s.right b → placed s.right.size map a b ≢ 0
      → LeastDepth s.sides s.left s.right s.bound a b (depth (expression es (placed s.right.size map a b)))
