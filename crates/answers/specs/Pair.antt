-- Pair (01, "The operations and when they decline"), as executable definitions over the lists of the map's places and of the sheet's bytes.
use Rattle.std.specs.Prelude.{cond, List, ℕ, eqb, ltb, length, get_or, Result, Ok, Err}
use Rattle.outcome.specs.Outcome.{Outcome, accepted}
use Rattle.outcome.specs.Refused.{named, of_part, declined}
use Rattle.outcome.specs.declared.Part.TheVariants as part
use Rattle.outcome.specs.declared.Refusal.TheVariants.{NoEntry, NoPlace}
use Rattle.outcome.specs.declared.Refused.{Refused}
use Rattle.sheet.specs.Sheet.{hidden_place, count_of, entry_start, sheet_refusal}
use Rattle.sheet.specs.declared.Question.{Question}
use Rattle.answers.specs.declared.Said.{Said}
use Rattle.answers.specs.declared.Said.TheVariants.{Matched, Hidden, Parted}
use Rattle.answers.specs.declared.Place.{Place}
use Rattle.answers.specs.declared.Place.TheVariants as says

-- "At 0 it says matched"; at 65,535 it "says hidden" (02, 2026-07): what the number at a place of the map says.
unfoldable pub place_of : ℕ → Place
place_of number = cond (eqb number 0) says.Matched (cond (eqb number hidden_place) says.Hidden (says.Parted (record { 0 = number })))

-- "25 if its number is not below q, else its number and the byte of the sheet where its entry starts."
unfoldable pub question_answer : List ℕ → Question → Result Said Refused
question_answer s question =
    cond (ltb question.0 (count_of s)) (Ok (Parted question (entry_start s question.0))) (Err (of_part part.Call NoEntry))

-- "The question is fetched only if the pair is parted."
unfoldable pub place_answer : List ℕ → Place → Result Said Refused
place_answer s says.Matched = Ok Matched
place_answer s says.Hidden = Ok Hidden
place_answer s (says.Parted question) = question_answer s question

-- "The sheet's refusal; 26: place outside the map"; then what the place says.
unfoldable pub pair_answer : List ℕ → ℕ → List ℕ → Result Said Refused
pair_answer map place s =
    cond (eqb (sheet_refusal s) 0)
    (cond (ltb place (length map)) (place_answer s (place_of (get_or map place 0))) (Err (of_part part.Call NoPlace)))
    (Err (of_part part.Sheet (named (sheet_refusal s))))

-- 01's number and values for each answer: the number of the question and the byte, both 0 where matched; 65,535 where hidden.
abbrev pub said_outcome : Said → Outcome
said_outcome Matched = accepted 0 0
said_outcome Hidden = accepted hidden_place 0
said_outcome (Parted question start) = accepted question.0 start

-- A refusal speaks of the sheet where it is the sheet's own, else of the call itself.
abbrev pub pair_outcome : Result Said Refused → Outcome
pair_outcome (Ok said) = said_outcome said
pair_outcome (Err r) = declined r
