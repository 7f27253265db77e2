-- Reading the entries of an accepted sheet where they stand: what may be read, and where the steps of a way are.
use Rattle.std.specs.Prelude.{List, ◌≡◌, ℕ, ◌+◌, ◌*◌, ◌≤◌, ◌<◌, length, get_or}
use Rattle.sheet.specs.Entry.{Step, kind_of, numbers}
use Rattle.sheet.specs.Sheet.{version_of, head_size, step_width, steps_at, first_start, first_count, second_start, second_count, entry_at}
use Rattle.sheet.specs.Passed.{EntryPassed}
use Rattle.sheet.specs.declared.Steps.{Steps}

-- An entry that passes the check starts at `at`.
pub record Readable (s : List ℕ) (at : ℕ) : Type 0 where
  pub long : head_size ≤ length s
  pub bound : ℕ
  pub index : ℕ
  pub standing : EntryPassed (version_of s) s bound index at

-- It is a not, and or or, with a number i.
pub record HasNumber (s : List ℕ) (at i : ℕ) : Type 0 where
  pub entry : Readable s at
  pub plain : kind_of (entry_at s at) < 4
  pub present : i < length (numbers (entry_at s at))

-- Its kind is at least `least`: 4 for a first way, 5 for a second.
pub record HasWay (s : List ℕ) (at least : ℕ) : Type 0 where
  pub entry : Readable s at
  pub kind : least ≤ kind_of (entry_at s at)

-- The steps that stand at a place.
abbrev pub steps_of : List ℕ → Steps → List Step
steps_of s w = steps_at w.version s w.start w.count

-- Step i of them can be read.
pub record HasStep (s : List ℕ) (w : Steps) (i : ℕ) : Type 0 where
  pub present : i < w.count
  pub few : w.count < 256
  pub inside : w.start + step_width w.version * w.count ≤ length s

-- The place of the first way of the entry at `at`.
abbrev pub first_place : List ℕ → ℕ → Steps
first_place s at = record { start = first_start (get_or s (at + 1) 0) (at + 2); count = first_count s (at + 2); version = version_of s }

-- The place of its second way.
abbrev pub second_place : List ℕ → ℕ → Steps
second_place s at = record { start = second_start (version_of s) (get_or s (at + 1) 0) s (at + 2); count = second_count s (at + 2); version = version_of s }

-- r is the place w, which lies within the sheet, and the steps there are ss.
pub record Reads (s : List ℕ) (w : Steps) (ss : List Step) (r : Steps) : Type 0 where
  pub place : r ≡ w
  pub few : r.count < 256
  pub steps : steps_of s r ≡ ss
  pub inside : r.start + step_width r.version * r.count ≤ length s
