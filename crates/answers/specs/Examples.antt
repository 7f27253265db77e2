-- Worked answers of Row and Pair, computed by the definitions.
use Rattle.std.specs.Prelude.{List, [], ◌∷◌, ◌≡◌, refl, ℕ, ◌-◌, ◌^◌, Ok, Err}
use Rattle.fields.specs.Fields.{field}
use Rattle.sheet.specs.Entry.{entry_with, numbers}
use Rattle.sheet.specs.Sheet.{hidden_place, entry_of, start_from, head_refusal, step_counts, too_large, required, numbers_refusal, body_refusal, kind_refusal, entry_refusal, entries_refusal, sheet_refusal}
use Rattle.words.specs.Words.{tally, word_of}
use Rattle.answers.specs.Row.{row_refusal, row, row_answer}
use Rattle.answers.specs.Pair.{place_of, question_answer, place_answer, pair_answer}
use Rattle.answers.specs.declared.RowSet.{RowSet}
use Rattle.answers.specs.declared.Said.{Said}
use Rattle.answers.specs.declared.Said.TheVariants.{Matched, Hidden, Parted}
use Rattle.outcome.specs.Refused.{named, judged, of_part}
use Rattle.outcome.specs.declared.Part.TheVariants as part
use Rattle.outcome.specs.declared.Refusal.TheVariants as says

-- A map for 01's books A at bound 1: matched are (1,1) and (2,1).
abbrev pub map_a : List ℕ
map_a = 1 ∷ 2 ∷ 1 ∷ 0 ∷ 1 ∷ 0 ∷ []

-- The rows of 01's listing of A; then a row past the end, m and i at their limits.
pub rows : row_answer map_a 2 0 ∷ row_answer map_a 2 1 ∷ row_answer map_a 2 2 ∷ row_answer map_a 2 3 ∷ row_answer map_a 64 (2 ^ 64 - 1)
    ∷ row_answer map_a 0 0 ∷ row_answer map_a 65 0 ∷ []
    ≡ Ok (row 0 0) ∷ Ok (row 2 1) ∷ Ok (row 2 1) ∷ Err says.NoPlace ∷ Err says.NoPlace ∷ Err says.RowLength ∷ Err says.RowLength ∷ []
unfolding row_answer judged named row_refusal word_of tally
rows = refl

-- A sheet of two entries: true, at byte 8, and not entry 0, at byte 10.
abbrev pub sheet_two : List ℕ
sheet_two = 0 ∷ 0 ∷ 0 ∷ 14 ∷ 1 ∷ 1 ∷ 0 ∷ 2 ∷ 1 ∷ 0 ∷ 3 ∷ 1 ∷ 0 ∷ 0 ∷ []

-- A parted pair, a number past the sheet's, a matched pair, a place past the end; the matched pair again, with a sheet of no bytes; a hidden pair.
pub pairs : pair_answer map_a 0 sheet_two ∷ pair_answer map_a 1 sheet_two ∷ pair_answer map_a 3 sheet_two ∷ pair_answer map_a 6 sheet_two ∷ pair_answer map_a 3 []
    ∷ pair_answer (hidden_place ∷ []) 0 sheet_two ∷ []
    ≡ Ok (Parted (record { 0 = 1 }) 10) ∷ Err (of_part part.Call says.NoEntry) ∷ Ok Matched ∷ Err (of_part part.Call says.NoPlace)
    ∷ Err (of_part part.Sheet says.FewBytes) ∷ Ok Hidden ∷ []
unfolding named pair_answer place_answer question_answer place_of start_from sheet_refusal head_refusal entries_refusal entry_refusal kind_refusal body_refusal numbers_refusal required too_large step_counts entry_of entry_with numbers field
pairs = refl
