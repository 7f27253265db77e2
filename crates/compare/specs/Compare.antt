-- Compare (01, "The operations and when they decline"), of both sides, or one-way, of the left one alone (02, 2026-03: "Limits, order and results are those of
-- Compare, with 0 for covered").
use Rattle.std.specs.Prelude.{false, not, cond, List, ◌++◌, ◌≡◌, ℕ, ◌*◌, ◌≤◌, eqb, ltb, length, drop, replicate, Result, Ok, Err}
use Rattle.theory.specs.Bisimulation.{Sides}
use Rattle.outcome.specs.Outcome.{Outcome, accepted, code}
use Rattle.outcome.specs.Refused.{named, of_part, declined}
use Rattle.outcome.specs.declared.Refusal.TheVariants as says
use Rattle.outcome.specs.declared.Part.TheVariants as part
use Rattle.outcome.specs.declared.Refused.{Refused}
use Rattle.book.specs.Book.{cells_of, book_refusal}
use Rattle.book.specs.BookGraph.{hides_beyond}
use Rattle.book.specs.declared.Hidden.{Hidden}
use Rattle.sheet.specs.Sheet.{most_bound}
use Rattle.sheet.specs.Encoding.{sheet_bytes}
use Rattle.compare_laws.specs.Room.{room_needed}
use Rattle.compare_laws.specs.Comparison.{State, comparison}
use Rattle.compare_laws.specs.Places.{zeros}
use Rattle.compare_lists.specs.BookSetting.{sheet_version, setting_of}
use Rattle.compare.specs.declared.Compared.{Compared}

-- The pairs of a left and a right cell ("n × m").
abbrev pub pairs_of : List ℕ → List ℕ → ℕ
pairs_of l r = cells_of l * cells_of r

-- The bytes of scratch that so many pairs need.
abbrev pub scratch_needed : ℕ → ℕ
scratch_needed pairs = 16 * pairs

-- Compare's answer where nothing is declined: the length of the sheet and how many pairs are matched.
abbrev pub serves : (sheet count : ℕ) → Result Compared Refused
serves sheet count = Ok (record { sheet = sheet; matched = count })

-- "21: map length not n × m. 22: sheet room below 10 + 44 × n × m bytes" (02, 2026-02: where the sheet's version v is 2, "10 + 52 × n × m").
-- "23: scratch below 16 × n × m." Otherwise "the answer holds the sheet's length
-- and the number of zeros in the map". `places`, `room` and `scratch` are how much is lent of each for so many pairs.
unfoldable pub lent_answer : (v pairs places room scratch sheet count : ℕ) → Result Compared Refused
lent_answer v pairs places room scratch sheet count =
    cond (not (eqb places pairs)) (Err (of_part part.Call says.MapLength))
    (cond (ltb room (room_needed v pairs)) (Err (of_part part.Call says.FewRoom))
    (cond (ltb scratch (scratch_needed pairs)) (Err (of_part part.Call says.FewScratch)) (serves sheet count)))

-- "20: c above 4. The left book's refusal, then the right's, each with its side"; "31, a word has a bit at or above its book's cell count, directly after the
-- checks of all books given, the left word first, with its side" (02, 2026-07); and then as above.
unfoldable pub compare_answer : List ℕ → List ℕ → ℕ → Hidden → (places room scratch sheet count : ℕ) → Result Compared Refused
compare_answer l r c hidden places room scratch sheet count =
    cond (ltb most_bound c) (Err (of_part part.Call says.BoundAbove))
    (cond (not (eqb (book_refusal l) 0)) (Err (of_part part.LeftBook (named (book_refusal l))))
    (cond (not (eqb (book_refusal r) 0)) (Err (of_part part.RightBook (named (book_refusal r))))
    (cond (hides_beyond hidden.left l) (Err (of_part part.LeftBook says.HiddenBeyond))
    (cond (hides_beyond hidden.right r) (Err (of_part part.RightBook says.HiddenBeyond))
    (lent_answer (sheet_version l r) (pairs_of l r) places room scratch sheet count)))))

-- Nothing is to be declined: a bound, two accepted books, words that hide cells of theirs, and as much lent as 01 asks for.
pub record Accepts (l r : List ℕ) (c : ℕ) (hidden : Hidden) (places room scratch : ℕ) : Type 0 where
  pub bound : c ≤ most_bound
  pub left : book_refusal l ≡ 0
  pub right : book_refusal r ≡ 0
  pub left_word : hides_beyond hidden.left l ≡ false
  pub right_word : hides_beyond hidden.right r ≡ false
  pub map : places ≡ pairs_of l r
  pub roomy : room_needed (sheet_version l r) (pairs_of l r) ≤ room
  pub spare : scratch_needed (pairs_of l r) ≤ scratch

-- 01's number of each answer, and the part that a refusal speaks of.
abbrev pub compare_outcome : Result Compared Refused → Outcome
compare_outcome (Ok done) = accepted done.sheet done.matched
compare_outcome (Err r) = declined r

-- What Compare computes: the state that the definition of the comparison ends in, of the setting of the two books as they are seen where the sides x count.
abbrev pub compared : Sides → List ℕ → List ℕ → ℕ → Hidden → State
compared x l r c hidden = comparison (setting_of x l r c hidden)

-- The map: "place i × m + j is 0 if left i and right j are matched, else the entry of a question that parts them"; "map places with a hidden cell get 65,535".
abbrev pub compared_map : Sides → List ℕ → List ℕ → ℕ → Hidden → List ℕ
compared_map x l r c hidden = (compared x l r c hidden).map

-- The sheet that has these questions.
abbrev pub compared_sheet : Sides → List ℕ → List ℕ → ℕ → Hidden → List ℕ
compared_sheet x l r c hidden = sheet_bytes (sheet_version l r) c (compared x l r c hidden).entries

-- The lists as lent at entry, and at exit.
pub record Lists : Type 0 where
  pub map : List ℕ
  pub room : List ℕ
  pub scratch : List ℕ

-- The right answer for what is lent: "the answer holds the sheet's length and the number of zeros in the map".
abbrev pub right_answer : Sides → List ℕ → List ℕ → ℕ → Hidden → Lists → Result Compared Refused
right_answer x l r c hidden before =
    compare_answer l r c hidden (length before.map) (length before.room) (length before.scratch) (length (compared_sheet x l r c hidden)) (zeros (compared_map x l r c hidden))

-- What an answer leaves. "The sheet starts the room; bytes after it are unchanged. Lent scratch ends as zeros." And "a refusal is a number; buffers stay
-- untouched".
unfoldable pub left_by : Sides → List ℕ → List ℕ → ℕ → Hidden → Lists → Result Compared Refused → Lists
left_by x l r c hidden before (Ok _) =
    record {
      map = compared_map x l r c hidden;
      room = compared_sheet x l r c hidden ++ drop (length (compared_sheet x l r c hidden)) before.room;
      scratch = replicate (length before.scratch) 0;
    }
left_by x l r c hidden before (Err _) = before

-- Compare's promise, of an answer that is told as `tell` says: the answer and the lists at exit are these, to the last byte.
pub record Compares {A : Type 0} (tell : Result Compared Refused → A) (x : Sides) (l r : List ℕ) (c : ℕ) (hidden : Hidden) (before : Lists) (a : A) (now : Lists) : Type 0 where
  pub answer : a ≡ tell (right_answer x l r c hidden before)
  pub lists : now ≡ left_by x l r c hidden before (right_answer x l r c hidden before)

-- The lists of a call.
abbrev pub lent : List ℕ → List ℕ → List ℕ → Lists
lent map room scratch = record { map = map; room = room; scratch = scratch }

-- Compare of the books l and r for the bound c and the words that hide cells, where the sides x count: its answer a, and the lists at exit.
abbrev pub IsCompare : Sides → List ℕ → List ℕ → ℕ → Hidden → Lists → Result Compared Refused → Lists → Type 0
IsCompare = Compares (λ a. a)

-- The same, with the answer as one number.
abbrev pub IsCompareCode : Sides → List ℕ → List ℕ → ℕ → Hidden → Lists → ℕ → Lists → Type 0
IsCompareCode = Compares (λ a. code (compare_outcome a))
