-- Where a comparison stands between two rounds, and what the rounds leave.
use Rattle.std.specs.Prelude.{false, List, ◌≡◌, ℕ, suc, ◌≤◌}
use Rattle.theory.specs.Bisimulation.{Relation}
use Rattle.sheet.specs.Entry.{Entry}
use Rattle.sheet.specs.Sheet.{most_entries}
use Rattle.compare_laws.specs.Setting.{Setting}
use Rattle.compare_laws.specs.Refining.{Compared}
use Rattle.compare_entries.specs.Growing.{Penned, Onward}
use Rattle.compare_entries.specs.Parting.{Lists, lists}
use Rattle.compare_entries.specs.declared.Pen.{Pen}
use Rattle.compare_pair.specs.declared.Sizes.{Sizes}
use Rattle.compare_pair.specs.Settling.{Chart, Ground, Idle, Standing}
use Rattle.compare_map.specs.Relation.{rows_of, columns_of}
use Rattle.compare_near.specs.Near.{changed, near_to, reach_of_lem}
use Rattle.compare_round.specs.declared.Live.{Live}

-- The lists between two rounds: what describes a cell is the same as a round finds it and as it has become.
abbrev pub at_rest : List ℕ → Pen → List ℕ → List ℕ → Lists
at_rest room pen map new = lists room pen map new new

-- Of no pair is it known that it stays.
abbrev pub no_pair : Relation
no_pair a b = false

-- A round of some setting can begin, and it is known of some pairs that they stay.
pub record Opens (l r : Chart) (z : Sizes) (idle : Relation) (x : Lists) : Type 0 where
  pub setting : Setting
  pub before : ℕ
  pub ground : Ground setting l r z
  pub standing : Standing setting before 0 x
  pub known : Idle setting before idle

-- The cells near those whose row or column of the map is not what it was.
unfoldable pub live_after : List ℕ → List ℕ → List ℕ → List ℕ → List ℕ → List ℕ → List ℕ → Sizes → Live
live_after sa ta sb tb rows columns map z =
    let after = rows_of map z.left z.right in
    record {
      left = near_to sa ta z.left (changed rows after z.left) (reach_of_lem z.bound);
      right = near_to sb tb z.right (changed columns (columns_of after z.left z.right) z.right) (reach_of_lem z.bound);
    }

-- The comparison is done: the room holds the entries that it promises.
pub record Finished (s : Setting) (room : List ℕ) (pen : Pen) (map : List ℕ) : Type 0 where
  pub entries : List Entry
  pub penned : Penned room entries pen
  pub version : pen.version ≡ s.version
  pub compared : Compared s entries map

-- A round was taken, whatever the setting: the next can begin, with other pairs known to stay, and where nothing was written the comparison is done.
pub record Turned (l r : Chart) (z : Sizes) (idle idle' : Relation) (x x' : Lists) : Type 0 where
  pub next : (s : Setting) (k : ℕ) → Ground s l r z → Idle s k idle → Standing s k 0 x → Standing s (suc k) 0 x' × Idle s (suc k) idle'
  pub last : x'.pen.next ≡ x.pen.next → (s : Setting) (k : ℕ) → Ground s l r z → Idle s k idle → Standing s k 0 x → Finished s x'.room x'.pen x'.map
  pub onward : Onward x.room x'.room x.pen.at x'.pen.at
  pub rising : x.pen.next ≤ x'.pen.next
  pub few : x'.pen.next ≤ most_entries

-- All rounds were taken, whatever the setting: the comparison is done.
pub record Refines (l r : Chart) (z : Sizes) (x x' : Lists) : Type 0 where
  pub finished : (s : Setting) (k : ℕ) → Ground s l r z → Standing s k 0 x → Finished s x'.room x'.pen x'.map
  pub onward : Onward x.room x'.room x.pen.at x'.pen.at
