-- The bytes of entries and of a sheet (01, "Sheet bytes") of version v, as a writer makes them.
use Rattle.std.specs.Prelude.{List, [], ◌∷◌, ◌++◌, ℕ, suc, ◌+◌, ◌^◌, length}
use Rattle.fields.specs.Fields.{bytes_of}
use Rattle.fields.specs.Label.{label_width}
use Rattle.sheet.specs.Entry.{Step, Entry, truth, negation, conjunction, disjunction, way, comparison, kind_of, Below}
use Rattle.sheet.specs.Sheet.{head_size, number_width}

-- A label and a number for each step.
unfoldable pub encode_steps : ℕ → List Step → List ℕ
encode_steps v [] = []
encode_steps v (s ∷ ss) = bytes_of (label_width v) s.label ++ (bytes_of number_width s.test ++ encode_steps v ss)

-- What follows the kind byte: numbers; or the step counts, then the steps.
unfoldable pub body_of : ℕ → Entry → List ℕ
body_of v truth = []
body_of v (negation i) = bytes_of number_width i
body_of v (conjunction i j) = bytes_of number_width i ++ bytes_of number_width j
body_of v (disjunction i j) = bytes_of number_width i ++ bytes_of number_width j
body_of v (way s) = length s ∷ encode_steps v s
body_of v (comparison t s s') = length s ∷ length s' ∷ (encode_steps v s ++ encode_steps v s')

-- "One byte counting what follows it, then a kind byte, then" the body.
unfoldable pub encode_entry : ℕ → Entry → List ℕ
encode_entry v e = suc (length (body_of v e)) ∷ kind_of e ∷ body_of v e

-- The entries one after another.
unfoldable pub encode : ℕ → List Entry → List ℕ
encode v [] = []
encode v (e ∷ es) = encode_entry v e ++ encode v es

-- "Bytes 0-3: whole length. Byte 4: version. Byte 5: bound c. Bytes 6-7: entries q."
unfoldable pub header : ℕ → ℕ → ℕ → ℕ → List ℕ
header v l c q = bytes_of 4 l ++ (v ∷ c ∷ bytes_of 2 q)

-- The sheet of version v for the bound c with these entries.
unfoldable pub sheet_bytes : ℕ → ℕ → List Entry → List ℕ
sheet_bytes v c es = header v (head_size + length (encode v es)) c (length es) ++ encode v es

-- The labels in a way's steps.
unfoldable pub step_labels : List Step → List ℕ
step_labels [] = []
step_labels (s ∷ ss) = s.label ∷ step_labels ss

-- The labels in an entry.
unfoldable pub labels : Entry → List ℕ
labels truth = []
labels (negation i) = []
labels (conjunction i j) = []
labels (disjunction i j) = []
labels (way s) = step_labels s
labels (comparison t s s') = step_labels s ++ step_labels s'

-- Each label has room in its bytes.
unfoldable pub Labelled : ℕ → List Entry → Type 0
Labelled v [] = Unit {0}
Labelled v (e ∷ es) = Below (256 ^ label_width v) (labels e) × Labelled v es
