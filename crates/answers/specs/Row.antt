-- Row (01, "The operations and when they decline"), as executable definitions over the list of the map's places.
use Rattle.std.specs.Prelude.{Bool, cond, ◌||◌, List, ℕ, ◌+◌, ◌*◌, eqb, ltb, length, get_or, Result, Ok, Err}
use Rattle.outcome.specs.Outcome.{Outcome, accepted}
use Rattle.outcome.specs.Refused.{of_part, declined, judged}
use Rattle.outcome.specs.declared.Part.TheVariants as part
use Rattle.outcome.specs.declared.Refusal.{Refusal}
use Rattle.words.specs.Words.{tally, word_of}
use Rattle.answers.specs.declared.RowSet.{RowSet}

-- m is at most this.
abbrev pub most_cells : ℕ
most_cells = 64

-- "27: m is 0 or above 64. 26: the row is not wholly in the map." 0 where there is none.
unfoldable pub row_refusal : List ℕ → ℕ → ℕ → ℕ
row_refusal map m i =
    cond (eqb m 0 || ltb most_cells m) 27
    (cond (ltb (length map) (i * m + m)) 26 0)

-- Whether the j-th place from `base` on holds 0.
abbrev pub zero_from : List ℕ → ℕ → ℕ → Bool
zero_from map base j = eqb (get_or map (base + j) 0) 0

-- "A word with bit j set where the place holds 0": the place i × m + j.
abbrev pub row_word : List ℕ → ℕ → ℕ → ℕ
row_word map m i = word_of m (zero_from map (i * m))

-- "How many bits are set": the number of zeros in that row of the map.
abbrev pub row_count : List ℕ → ℕ → ℕ → ℕ
row_count map m i = tally m (zero_from map (i * m))

-- A row of that word and that count.
abbrev pub row : ℕ → ℕ → RowSet
row word count = record { word = word; count = count }

-- Row gives the word and the count, or its refusal.
unfoldable pub row_answer : List ℕ → ℕ → ℕ → Result RowSet Refusal
row_answer map m i = judged (row_refusal map m i) (row (row_word map m i) (row_count map m i))

-- 01's number and values for each answer: the count; a refusal speaks of the call itself. The word has 64 bits and no room in an outcome: a caller that
-- takes numbers asks for it by itself (`word_in`).
abbrev pub row_outcome : Result RowSet Refusal → Outcome
row_outcome (Ok r) = accepted r.count 0
row_outcome (Err r) = declined (of_part part.Call r)

-- The word of an answer, 0 where it is a refusal: what the caller of `row_word` gets.
abbrev pub word_in : Result RowSet Refusal → ℕ
word_in (Ok r) = r.word
word_in (Err r) = 0
