-- Worked sheets, computed by antt: the smallest that is accepted, each refusal once, and 14 before 12; and of version 2, a comparison of one step by label
-- 258 and one by label 7, whose body with labels of one byte is refused.
use Rattle.std.specs.Prelude.{Result, Ok, Err}
use mathlib.Core.List.{List, [], ◌∷◌, map}
use mathlib.Core.Path.{◌≡◌, refl}
use Prim.Native.Nat.{ℕ, ◌+◌}
use lib.ListN.{length}
use Rattle.fields.specs.Fields.{field}
use Rattle.outcome.specs.Refused.{named, judged}
use Rattle.outcome.specs.declared.Refusal.{Refusal}
use Rattle.outcome.specs.declared.Refusal.TheVariants as says
use Rattle.fields.specs.Label.{label_width}
use Rattle.sheet.specs.Entry.{entry_with, numbers, tests}
use Rattle.sheet.specs.Sheet.{step_counts, steps_at, entry_of, head_refusal, too_large, required, numbers_refusal, body_refusal, kind_refusal, entry_refusal, entries_refusal, sheet_refusal, heading, sheet_answer}
use Rattle.sheet.specs.declared.Heading.{Heading}

record Row : Type 0 where
  sheet : List ℕ
  answer : Result Heading Refusal

row : List ℕ → Result Heading Refusal → Row
row s a = record { sheet = s; answer = a }

-- A sheet of version v and bound 1 with fewer than 256 bytes.
within : ℕ → ℕ → List ℕ → List ℕ
within v q entries = 0 ∷ 0 ∷ 0 ∷ (8 + length entries) ∷ v ∷ 1 ∷ 0 ∷ q ∷ entries

-- One of version 1.
with : ℕ → List ℕ → List ℕ
with q entries = within 1 q entries

table : List Row
table =
    row (with 1 (1 ∷ 0 ∷ [])) (Ok (heading 1 1))
    ∷ row (0 ∷ 0 ∷ 0 ∷ 7 ∷ 1 ∷ 1 ∷ 0 ∷ []) (Err says.FewBytes)
    ∷ row (0 ∷ 0 ∷ 0 ∷ 11 ∷ 1 ∷ 1 ∷ 0 ∷ 1 ∷ 1 ∷ 0 ∷ []) (Err says.OtherLength)
    ∷ row (within 0 1 (1 ∷ 0 ∷ [])) (Err says.OtherVersion)
    ∷ row (within 3 1 (1 ∷ 0 ∷ [])) (Err says.OtherVersion)
    ∷ row (within 2 1 (1 ∷ 0 ∷ [])) (Ok (heading 1 1))
    ∷ row (within 2 2 (1 ∷ 0 ∷ 11 ∷ 6 ∷ 1 ∷ 1 ∷ 1 ∷ 2 ∷ 0 ∷ 0 ∷ 0 ∷ 7 ∷ 0 ∷ 0 ∷ [])) (Ok (heading 2 1))
    ∷ row (within 2 2 (1 ∷ 0 ∷ 9 ∷ 6 ∷ 1 ∷ 1 ∷ 2 ∷ 0 ∷ 0 ∷ 7 ∷ 0 ∷ 0 ∷ [])) (Err says.BodyBytes)
    ∷ row (0 ∷ 0 ∷ 0 ∷ 10 ∷ 1 ∷ 5 ∷ 0 ∷ 1 ∷ 1 ∷ 0 ∷ []) (Err says.SheetCounts)
    ∷ row (with 1 (1 ∷ 0 ∷ 0 ∷ [])) (Err says.EntryBytes)
    ∷ row (with 1 (1 ∷ 7 ∷ [])) (Err says.OtherKind)
    ∷ row (with 2 (1 ∷ 0 ∷ 2 ∷ 4 ∷ 61 ∷ [])) (Err says.ManySteps)
    ∷ row (with 2 (1 ∷ 0 ∷ 3 ∷ 1 ∷ 0 ∷ 1 ∷ [])) (Err says.NotEarlier)
    ∷ row (with 1 (2 ∷ 4 ∷ 0 ∷ [])) (Err says.FirstEntry)
    ∷ row (with 2 (1 ∷ 0 ∷ 4 ∷ 1 ∷ 0 ∷ 1 ∷ 0 ∷ [])) (Err says.BodyBytes)
    ∷ row (with 3 (1 ∷ 0 ∷ 3 ∷ 1 ∷ 0 ∷ 0 ∷ 9 ∷ 6 ∷ 1 ∷ 1 ∷ 7 ∷ 0 ∷ 0 ∷ 7 ∷ 0 ∷ 1 ∷ [])) (Ok (heading 3 1))
    ∷ []

worked : map (λ r. sheet_answer r.sheet) table ≡ map (λ r. r.answer) table
unfolding row within with table sheet_answer judged named sheet_refusal head_refusal entries_refusal entry_refusal kind_refusal body_refusal numbers_refusal required too_large step_counts steps_at entry_of entry_with numbers tests field label_width
worked = refl
