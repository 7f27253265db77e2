-- The entries that a comparison writes: what they are as a sheet, and what an entry more leaves of those before.
use Rattle.std.specs.Prelude.{true, List, ◌≡◌, ℕ, ◌^◌, ◌<◌, ◌≤◌, length}
use Rattle.theory.specs.Graph.{Graph, linked}
use Rattle.fields.specs.Label.{label_width}
use Rattle.sheet.specs.Entry.{Entry, expression, Below, WellFormedEntry, WellFormed as WellFormedEntries}
use Rattle.sheet.specs.Encoding.{labels, Labelled}

-- Entries that a sheet of version v for the bound c can hold, if they are not too many.
pub record Sheet (v c : ℕ) (es : List Entry) : Type 0 where
  pub some : 1 ≤ length es
  pub formed : WellFormedEntries v c es
  pub labelled : Labelled v es

-- The entry may stand as number n of such a sheet.
pub record Fit (v c n : ℕ) (e : Entry) : Type 0 where
  pub formed : WellFormedEntry v c n e
  pub labelled : Below (256 ^ label_width v) (labels e)

-- The entries es' are as many as es or more, and what the numbers of es mean is as it was.
pub record Grows (es es' : List Entry) : Type 0 where
  pub longer : length es ≤ length es'
  pub same : (i : ℕ) → i < length es → expression es' i ≡ expression es i

-- Every label of the graph has room in a sheet of version v.
pub record Narrow (v : ℕ) (g : Graph) : Type 0 where
  pub label : (x a y : ℕ) → linked g x a y ≡ true → a < 256 ^ label_width v
