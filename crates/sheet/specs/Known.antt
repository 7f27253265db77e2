-- A pass over a sheet, entry by entry, that lists something of each: what is known of the entries before is read at the numbers of the next.
use Rattle.std.specs.Prelude.{List, ◌≡◌, ℕ, ◌+◌, ◌*◌, ◌<◌, ◌≤◌, length}
use Rattle.sheet.specs.Entry.{tests, numbers, Below}
use Rattle.sheet.specs.Sheet.{count_of, step_width, entry_at, sheet_refusal}
use Rattle.sheet.specs.Reading.{Readable, steps_of}
use Rattle.sheet.specs.declared.Steps.{Steps}

-- The steps of a way lie within the sheet, and their tests name some of m entries.
pub record WayKnown (s : List ℕ) (w : Steps) (m : ℕ) : Type 0 where
  pub few : w.count < 256
  pub inside : w.start + step_width w.version * w.count ≤ length s
  pub known : Below m (tests (steps_of s w))

-- An entry stands at `at`, and its numbers name some of m entries.
pub record EntryKnown (s : List ℕ) (at m : ℕ) : Type 0 where
  pub entry : Readable s at
  pub known : Below m (numbers (entry_at s at))

-- The first `upto` entries of an accepted sheet, each with one of m places.
pub record EntriesFit (s : List ℕ) (upto m : ℕ) : Type 0 where
  pub good : sheet_refusal s ≡ 0
  pub entries : upto ≤ count_of s
  pub places : upto ≤ m
