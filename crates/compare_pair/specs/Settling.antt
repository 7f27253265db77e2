-- Where a round of a comparison stands, and how code takes it on. No bytes and no graphs are passed: that the lists show a setting is what `Stands` asks,
-- of some setting, and what code leaves is said of every setting that they show (`Goes`).
use Rattle.std.specs.Prelude.{false, List, ◌≡◌, ℕ, suc, ◌+◌, ◌*◌, ◌≤◌, ◌<◌, length, get_or}
use Rattle.std.proofs.Math.Bool.{So}
use Rattle.theory.specs.Bisimulation.{Relation, flip, sides_of}
use Rattle.search_links.specs.Hops.{View, view_of}
use Rattle.search_links.specs.declared.side.Side.{Side}
use Rattle.search.specs.Reasons.{Charted}
use Rattle.compare_laws.specs.Setting.{Setting, pairs, relation_after}
use Rattle.compare_laws.specs.Room.{room_needed}
use Rattle.compare_laws.specs.Comparison.{state_at}
use Rattle.compare_laws.specs.Refining.{Comparable}
use Rattle.compare_map.specs.Relation.{Tells}
use Rattle.compare_entries.specs.Growing.{Onward}
use Rattle.compare_entries.specs.Parting.{Lists, Shows}
use Rattle.compare_pair.specs.declared.Sizes.{Sizes}
use Rattle.compare_pair.specs.declared.Case.{Case}

-- ---- what a comparison goes by

-- The lists of a book, as the search goes through them: its links, and the cells that pass each comparison.
pub record Chart : Type 0 where
  pub view : View
  pub ends : List ℕ

-- By its lists one by one.
abbrev pub chart : List ℕ → List ℕ → List ℕ → List ℕ → Chart
chart starts labels to ends = record { view = view_of starts labels to; ends = ends }

-- Of a side of the search.
abbrev pub chart_of : Side → Chart
chart_of a = chart a.starts a.labels a.to a.ends

-- The lists of two books show the setting's graphs, and the sizes are its own.
pub record Ground (s : Setting) (l r : Chart) (z : Sizes) : Type 0 where
  pub comparable : Comparable s
  pub left : Charted s.left l.view l.ends
  pub right : Charted s.right r.view r.ends
  pub left_size : z.left ≡ s.left.size
  pub right_size : z.right ≡ s.right.size
  pub bound : z.bound ≡ s.bound
  pub sides : s.sides ≡ sides_of z.both

-- ---- what a round goes by

-- The lists of two books, the sizes, a relation, from the left and from the right, and the pairs that are known to stay.
pub record Basis : Type 0 where
  pub left : Chart
  pub right : Chart
  pub sizes : Sizes
  pub rows : List ℕ
  pub columns : List ℕ
  pub idle : Relation

-- By these one by one, where it is known which pairs stay,
abbrev pub basis_with : Relation → Chart → Chart → Sizes → List ℕ → List ℕ → Basis
basis_with idle left right sizes rows columns = record { left = left; right = right; sizes = sizes; rows = rows; columns = columns; idle = idle }

-- and where it is not.
abbrev pub basis : Chart → Chart → Sizes → List ℕ → List ℕ → Basis
basis = basis_with (λ a b. false)

-- Round k + 1 keeps the pairs that pass the test, if they were not parted before.
abbrev pub Idle : Setting → ℕ → Relation → Type 0
Idle s k idle = (a b : ℕ) → a < s.left.size → b < s.right.size → So (idle a b) → So (relation_after s k a b) → So (relation_after s (suc k) a b)

-- They are those of the setting's round k + 1.
pub record Round (s : Setting) (k : ℕ) (by : Basis) : Type 0 where
  pub ground : Ground s by.left by.right by.sizes
  pub ahead : Tells s.left.size s.right.size (relation_after s k) by.rows
  pub back : Tells s.right.size s.left.size (flip (relation_after s k)) by.columns
  pub idle : Idle s k by.idle

-- ---- where it stands

-- The lists that are written show the state before place p of round k + 1, in the setting's version, and there is room for what is still to come.
pub record Standing (s : Setting) (k p : ℕ) (x : Lists) : Type 0 where
  pub shows : Shows x (state_at s k p)
  pub version : x.pen.version ≡ s.version
  pub wide : length x.new ≡ 128
  pub roomy : room_needed s.version (pairs s) ≤ length x.room

-- Of some setting and some round.
pub record Stands (by : Basis) (p : ℕ) (x : Lists) : Type 0 where
  pub setting : Setting
  pub before : ℕ
  pub round : Round setting before by
  pub standing : Standing setting before p x

-- Whatever the setting and the round: if it stood before place p with the lists x, it stands before place q with x'. What was written went behind what was
-- there.
pub record Goes (by : Basis) (p q : ℕ) (x x' : Lists) : Type 0 where
  pub next : (s : Setting) (k : ℕ) → Round s k by → Standing s k p x → Standing s k q x'
  pub onward : Onward x.room x'.room x.pen.at x'.pen.at

-- ---- a pair

-- Its place of the map (01: "place i × m + j").
abbrev pub place_of : Case → ℕ
place_of here = here.left.0 * here.sizes.right + here.right.0

-- It is one of the sizes, and its place holds 0.
pub record Undecided (map : List ℕ) (here : Case) : Type 0 where
  pub left : here.left.0 < here.sizes.left
  pub right : here.right.0 < here.sizes.right
  pub zero : get_or map (place_of here) 0 ≡ 0
