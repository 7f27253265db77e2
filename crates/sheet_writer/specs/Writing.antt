-- Writing a sheet of version v into lent room: what an entry's writer leaves there, and what the room then holds.
use Rattle.std.specs.Prelude.{List, [], ◌∷◌, ◌++◌, ◌≡◌, ℕ, zero, suc, ◌+◌, ◌*◌, ◌^◌, ◌<◌, ◌≤◌, length, get_or, take, drop}
use Rattle.fields.specs.Label.{label_width}
use Rattle.fields.specs.Runs.{PutBytes}
use Rattle.sheet.specs.Entry.{Step, Entry}
use Rattle.sheet.specs.Sheet.{head_size, most_bound, step_width}
use Rattle.sheet.specs.Encoding.{encode_steps, encode_entry, encode}
use Rattle.sheet_writer.specs.declared.Step.{Step as Given}

-- A step.
abbrev pub step : ℕ → ℕ → Step
step label test = record { label = label; test = test }

-- The steps that are given, as an entry has them.
unfoldable pub steps_given : List Given → List Step
steps_given [] = []
steps_given (g ∷ gs) = step g.label g.test.0 ∷ steps_given gs

-- Step i of them.
abbrev pub given : List Given → ℕ → Given
given gs i = get_or gs i (record { label = 0; test = record { 0 = 0 } })

-- Each label has room in its bytes, and the steps have room at `at`.
pub record StepsFit (v : ℕ) (room : List ℕ) (at : ℕ) (gs : List Given) : Type 0 where
  pub narrow : (i : ℕ) → i < length gs → (given gs i).label < 256 ^ label_width v
  pub inside : at + step_width v * length gs ≤ length room

-- The same for two ways, one behind the other, each of at most 4 steps.
pub record WaysFit (v : ℕ) (room : List ℕ) (at : ℕ) (gs gs' : List Given) : Type 0 where
  pub short : length gs ≤ most_bound
  pub short' : length gs' ≤ most_bound
  pub first : StepsFit v room at gs
  pub second : StepsFit v room (at + step_width v * length gs) gs'

-- The entry e was put into the room at `at`, and nothing else changed; `next` is the byte after it.
abbrev pub PutEntry : ℕ → List ℕ → ℕ → Entry → List ℕ → ℕ → Type 0
PutEntry v room at e = PutBytes room at (encode_entry v e)

-- So in a sheet of any version, for an entry without steps.
pub record PutPlain (room : List ℕ) (at : ℕ) (e : Entry) (exit : List ℕ) (next : ℕ) : Type 0 where
  pub any : (v : ℕ) → PutEntry v room at e exit next

-- The same of the steps of two ways.
abbrev pub PutWays : ℕ → List ℕ → ℕ → List Step → List Step → List ℕ → ℕ → Type 0
PutWays v room at s s' = PutBytes room at (encode_steps v s ++ encode_steps v s')

-- The room holds the bytes of the entries es behind a header; the next entry goes to `at`.
pub record Holding (v : ℕ) (room : List ℕ) (es : List Entry) (at : ℕ) : Type 0 where
  pub place : at ≡ head_size + length (encode v es)
  pub inside : at ≤ length room
  pub bytes : take (length (encode v es)) (drop head_size room) ≡ encode v es
