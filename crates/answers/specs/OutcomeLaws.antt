-- What Row and Pair answer has room in an outcome's bits.
use Rattle.std.specs.Prelude.{List, ℕ, ◌*◌, eqb, Result, Ok, Err}
use Rattle.std.proofs.Common.{arith, eqb-true}
use Rattle.fields.specs.Fields.{Bytes}
use Rattle.outcome.specs.Outcome.{Fits}
use Rattle.outcome.specs.OutcomeLaws.{accepted_fits, declined_fits}
use Rattle.outcome.specs.Refused.{named, of_part, judged}
use Rattle.outcome.specs.RefusalLaws.{either}
use Rattle.outcome.specs.declared.Part.TheVariants as part
use Rattle.outcome.specs.declared.Refused.{Refused}
use Rattle.words.specs.Laws.{tally-le}
use Rattle.sheet.specs.Sheet.{hidden_place}
use Rattle.answers.specs.Row.{row_refusal, zero_from, row_count, row_answer, row_outcome}
use Rattle.answers.specs.RowLaws.{row_whole}
use Rattle.answers.specs.Pair.{pair_answer, pair_outcome}
use Rattle.answers.specs.PairLaws.{Shows, Tells, pair_shows, fetched_small}
use Rattle.answers.specs.declared.Said.{Said}
use Rattle.answers.specs.declared.Said.TheVariants.{Matched, Hidden, Parted}

-- Row: the count, 27 or 26.
pub row_fits : (map : List ℕ) (m i : ℕ) → Fits (row_outcome (row_answer map m i))
unfolding row_answer judged
row_fits map m i =
    either (λ a. Fits (row_outcome a)) (eqb (row_refusal map m i) 0)
    (λ e. accepted_fits (row_count map m i) 0 (omega (arith, (row_whole map m i (eqb-true _ _ e)).most, tally-le m (zero_from map (i * m)))) (omega arith))
    (λ _. declined_fits (of_part part.Call (named (row_refusal map m i))))

-- Pair: the number of the question and the byte where its entry starts, both 0 where the pair is matched, and 65,535 where it is hidden; the refusal of the sheet, 26 or 25.
pub pair_fits : (map : List ℕ) (place : ℕ) (s : List ℕ) → Bytes s → Fits (pair_outcome (pair_answer map place s))
unfolding Shows Tells
pair_fits map place s b = each (pair_answer map place s) (pair_shows map place s)
  where
    said : (a : Said) → Tells map place s a → Fits (pair_outcome (Ok a))
    said Matched h = accepted_fits 0 0 (omega arith) (omega arith)
    said Hidden h = accepted_fits hidden_place 0 (omega arith) (omega arith)
    said (Parted question start) h = let (k, l) = fetched_small b h in accepted_fits question.0 start k l

    each : (a : Result Said Refused) → Shows map place s a → Fits (pair_outcome a)
    each (Ok a) h = said a h
    each (Err r) h = declined_fits r
