-- Worked texts, chains and answers, computed by the definitions.
use Rattle.std.specs.Prelude.{List, [], ◌∷◌, map, ◌≡◌, refl, ℕ, zero, suc, ◌+◌, length, Ok, Err}
use Rattle.outcome.specs.Refused.{named, of_part}
use Rattle.outcome.specs.declared.Refusal.TheVariants as says
use Rattle.outcome.specs.declared.Part.TheVariants as part
use Rattle.fields.specs.Fields.{field}
use Rattle.fields.specs.Label.{label_width}
use Rattle.theory.specs.Graph.{same, differ}
use Rattle.theory.specs.Expression.{NodeExpr, neg, always}
use Rattle.sheet.specs.Entry.{Step, Entry, truth, negation, conjunction, disjunction, way, comparison, entry_with, tests, numbers, spell_way, spell, extend, expressions}
use Rattle.sheet.specs.Sheet.{entry_of, steps_at, entries_at, head_refusal, step_counts, too_large, required, numbers_refusal, body_refusal, kind_refusal, entry_refusal, entries_refusal, sheet_refusal}
use Rattle.text.specs.Text.{ascii, numeral}
use Rattle.question_measure.specs.Text.{sign_text, or_stay, steps_text, question_text, way_chain, chain}
use Rattle.question_text.specs.Answer.{refused, text_of, question_answer, length_answer, with_room, write_answer, left_by, write_leaves}

-- A step.
abbrev go : ℕ → ℕ → Step
go label test = record { label = label; test = test }

-- Entries of every kind.
abbrev entries : List Entry
entries =
    truth ∷ negation 0 ∷ conjunction 0 1 ∷ disjunction 1 0 ∷ way [] ∷ way (go 1 0 ∷ go 25 1 ∷ [])
    ∷ comparison same [] (go 0 0 ∷ []) ∷ comparison differ (go 255 5 ∷ []) [] ∷ comparison differ [] (go 1 0 ∷ []) ∷ []

-- Their texts, entry by entry. The last is the question of P1 (01), "differ: stay, step 1", as Compare writes it.
pub texts : map question_text (expressions entries)
    ≡ ascii "<.>" ∷ ascii "!(<.>)" ∷ ascii "(<.>&!(<.>))" ∷ ascii "(!(<.>)|<.>)" ∷ ascii "<.>" ∷ ascii "</1[<.>]/25[!(<.>)]>"
    ∷ ascii "<.=/0[<.>]>" ∷ ascii "</255[</1[<.>]/25[!(<.>)]>]!=.>" ∷ ascii "<.!=/1[<.>]>" ∷ []
unfolding question_text steps_text or_stay sign_text numeral expressions extend spell spell_way
texts = refl

-- Their chains: a test counts as a reference.
pub chains : map chain (expressions entries) ≡ 0 ∷ 1 ∷ 2 ∷ 2 ∷ 0 ∷ 2 ∷ 1 ∷ 3 ∷ 1 ∷ []
unfolding chain way_chain expressions extend spell spell_way
chains = refl

-- Not, n times over.
unfoldable pub nots : ℕ → NodeExpr
nots zero = always
nots (suc n) = neg (nots n)

-- "28, a chain of more than 1,024 references": each not is one.
pub limits : question_answer (nots 1024) ∷ question_answer (nots 1025) ∷ [] ≡ Ok 3075 ∷ refused says.LongChain ∷ []
unfolding nots question_answer chain question_text way_chain steps_text or_stay
limits = refl

-- A sheet of two entries: true, at byte 8, and not entry 0, at byte 10.
abbrev sheet_two : List ℕ
sheet_two = 0 ∷ 0 ∷ 0 ∷ 14 ∷ 1 ∷ 1 ∷ 0 ∷ 2 ∷ 1 ∷ 0 ∷ 3 ∷ 1 ∷ 0 ∷ 0 ∷ []

-- The lengths of its two texts, an entry that it does not have, and a sheet of no bytes; then writing into room that serves, and into too little.
pub answers : length_answer sheet_two 0 ∷ length_answer sheet_two 1 ∷ length_answer sheet_two 2 ∷ length_answer [] 0 ∷ write_answer sheet_two 1 6 ∷ write_answer sheet_two 1 5 ∷ []
    ≡ Ok 3 ∷ Ok 6 ∷ refused says.NoEntry ∷ Err (of_part part.Sheet says.FewBytes) ∷ Ok 6 ∷ refused says.TextRoom ∷ []
unfolding named length_answer with_room question_answer chain way_chain question_text steps_text or_stay expressions extend spell spell_way sheet_refusal head_refusal entries_refusal entry_refusal kind_refusal body_refusal numbers_refusal required too_large step_counts entry_of entry_with numbers field entries_at steps_at
answers = refl

-- "Bytes after the text stay", and a refusal leaves the room.
pub rooms : write_leaves sheet_two 0 (7 ∷ 7 ∷ 7 ∷ 7 ∷ []) ∷ write_leaves sheet_two 1 (7 ∷ 7 ∷ []) ∷ [] ≡ (60 ∷ 46 ∷ 62 ∷ 7 ∷ []) ∷ (7 ∷ 7 ∷ []) ∷ []
unfolding named left_by length_answer with_room question_answer chain way_chain question_text steps_text or_stay expressions extend spell spell_way sheet_refusal head_refusal entries_refusal entry_refusal kind_refusal body_refusal numbers_refusal required too_large step_counts entry_of entry_with numbers field entries_at steps_at
rooms = refl

-- A sheet of two entries: true, and the way of one step, of the bytes given.
abbrev sheet_way : ℕ → List ℕ → List ℕ
sheet_way version step = 0 ∷ 0 ∷ 0 ∷ (13 + length step) ∷ version ∷ 1 ∷ 0 ∷ 2 ∷ 1 ∷ 0 ∷ (2 + length step) ∷ 4 ∷ 1 ∷ step

-- The step by the largest label of version 1, 255, and of version 2, 65,535, with a test of entry 0.
abbrev narrow : List ℕ
narrow = 255 ∷ 0 ∷ 0 ∷ []

abbrev wide : List ℕ
wide = 255 ∷ 255 ∷ 0 ∷ 0 ∷ []

-- Their texts, each in its version.
pub labels : text_of (sheet_way 1 narrow) 1 ∷ text_of (sheet_way 2 wide) 1 ∷ [] ≡ ascii "</255[<.>]>" ∷ ascii "</65535[<.>]>" ∷ []
unfolding question_text steps_text or_stay numeral expressions extend spell spell_way step_counts entry_of entry_with field label_width entries_at steps_at
labels = refl

-- The lengths, in each version: a step of the other has a byte too many or too few.
pub versions : length_answer (sheet_way 1 narrow) 1 ∷ length_answer (sheet_way 1 wide) 1 ∷ length_answer (sheet_way 2 narrow) 1 ∷ length_answer (sheet_way 2 wide) 1 ∷ []
    ≡ Ok 11 ∷ Err (of_part part.Sheet says.BodyBytes) ∷ Err (of_part part.Sheet says.BodyBytes) ∷ Ok 13 ∷ []
unfolding named length_answer question_answer chain way_chain question_text steps_text or_stay numeral expressions extend spell spell_way sheet_refusal head_refusal entries_refusal entry_refusal kind_refusal body_refusal numbers_refusal required too_large step_counts entry_of entry_with numbers tests field label_width entries_at steps_at
versions = refl
