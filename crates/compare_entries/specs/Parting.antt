-- What parts a pair, as it is written: from link numbers to steps, from a reason to its entry, and from a state of the comparison to the next.
use Rattle.std.specs.Prelude.{Bool, cond, List, [], ◌≡◌, ℕ, ◌+◌, ◌*◌, ◌^◌, ◌≤◌, ◌<◌, length, get_or, take}
use Rattle.theory.specs.Bisimulation.{Sides}
use Rattle.theory.specs.Parting.{Reason as TheoryReason}
use Rattle.fields.specs.Label.{label_width}
use Rattle.sheet.specs.Entry.{Entry, kind_number}
use Rattle.sheet_writer.specs.declared.Step.{Step as Given}
use Rattle.sheet_writer.specs.Writing.{steps_given, given}
use Rattle.search_links.specs.Hops.{view_of}
use Rattle.search.specs.Reasons.{path_in, reason_of, Numbered}
use Rattle.search_pairs.specs.declared.Route.{Route}
use Rattle.search.specs.declared.Reason.{Reason}
use Rattle.compare_laws.specs.Room.{pair_entries, denied_bytes, pair_bytes}
use Rattle.compare_laws.specs.Comparison.{State, Cause, ahead, back, with_denial, part, steps_along}
use Rattle.compare_entries.specs.Growing.{Penned, Roomy, Onward, Extends, side_of}
use Rattle.compare_entries.specs.declared.Pen.{Pen}

-- The theory's reason, by the links' labels and the nodes that they lead to.
abbrev pub listed : List ℕ → List ℕ → Reason → TheoryReason
listed labels to why = reason_of (view_of [] labels to) why

-- Why the pair is parted: a reason from the left, or from the right.
abbrev pub cause_in : List ℕ → List ℕ → Bool → Reason → Cause
cause_in labels to forth why = cond forth (ahead (listed labels to why)) (back (listed labels to why))

-- At most 4 links that there are, and their labels have room in a sheet of version v.
pub record Passable (v : ℕ) (labels to : List ℕ) (path : Route) : Type 0 where
  pub numbered : Numbered to 4 path
  pub narrow : (i : ℕ) → i < path.len → get_or labels (get_or path.links i 0) 0 < 256 ^ label_width v

-- The first of the steps are those along the path.
pub record Spells (labels to numbers : List ℕ) (path : Route) (gs : List Given) : Type 0 where
  pub steps : steps_given (take path.len gs) ≡ steps_along numbers (path_in (view_of [] labels to) path)
  pub label : (i : ℕ) → i < path.len → (given gs i).label ≡ get_or labels (get_or path.links i 0) 0
  pub long : length gs ≡ 4

-- The reason is one link, or two paths and a comparison.
pub record Puttable (v : ℕ) (labels to : List ℕ) (why : Reason) : Type 0 where
  pub known : (4 ≤ kind_number why.kind) × (kind_number why.kind ≤ 6)
  pub first : Passable v labels to why.first
  pub one : kind_number why.kind ≡ 4 → why.first.len ≡ 1
  pub two : 5 ≤ kind_number why.kind → Passable v labels to why.second

-- The entry e and its denial were written.
pub record Denies (room room' : List ℕ) (pen pen' : Pen) (e : Entry) : Type 0 where
  pub written : Extends room room' pen pen' (denied_bytes pen.version) 2 (λ es. with_denial es e)

-- There is room for what parts a pair, of bytes and entries.
pub record PartFits (room : List ℕ) (pen : Pen) (map : List ℕ) (place : ℕ) (labels to new : List ℕ) (a b : ℕ) (why : Reason) : Type 0 where
  pub puttable : Puttable pen.version labels to why
  pub roomy : Roomy room pen (pair_bytes pen.version) pair_entries
  pub inside : place < length map
  pub left_cell : a < 64
  pub right_cell : b < 64
  pub wide : length new ≡ 128

-- The lists that a comparison writes: the room and the pen in it, the map, and the numbers of what describes the cells of both books, as the round found
-- them and as they have become.
pub record Lists : Type 0 where
  pub room : List ℕ
  pub pen : Pen
  pub map : List ℕ
  pub old : List ℕ
  pub new : List ℕ

-- By these one by one.
abbrev pub lists : List ℕ → Pen → List ℕ → List ℕ → List ℕ → Lists
lists room pen map old new = record { room = room; pen = pen; map = map; old = old; new = new }

-- The lists are those of the state: the room holds its entries, and the map and the numbers are its own.
pub record Shows (x : Lists) (now : State) : Type 0 where
  pub entries : Penned x.room now.entries x.pen
  pub places : x.map ≡ now.map
  pub old_left : side_of 0 x.old ≡ now.old_left
  pub old_right : side_of 64 x.old ≡ now.old_right
  pub new_left : side_of 0 x.new ≡ now.new_left
  pub new_right : side_of 64 x.new ≡ now.new_right

-- Whatever state the lists showed, they show the one after the pair (a, b) was parted, where so many sides count; nothing behind the entries was written.
pub record Parted (sides : Sides) (x x' : Lists) (place a b : ℕ) (cause : Cause) : Type 0 where
  pub next : (m : ℕ) (now : State) → place ≡ a * m + b → Shows x now → Shows x' (part sides m a b cause now)
  pub onward : Onward x.room x'.room x.pen.at x'.pen.at
  pub version : x'.pen.version ≡ x.pen.version
  pub wide : length x'.new ≡ length x.new
