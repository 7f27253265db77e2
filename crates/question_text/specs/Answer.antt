-- The two operations (02, request 2026-01): the length of a question's text, and the text itself.
use Rattle.std.specs.Prelude.{cond, List, ◌++◌, ◌≡◌, ℕ, ◌/◌, ◌%◌, ◌^◌, eqb, ltb, length, drop, Result, Ok, Err}
use Rattle.outcome.specs.Outcome.{Outcome, accepted, code}
use Rattle.outcome.specs.Refused.{named, of_part, declined}
use Rattle.outcome.specs.declared.Refusal.{Refusal}
use Rattle.outcome.specs.declared.Refusal.TheVariants as says
use Rattle.outcome.specs.declared.Part.TheVariants as part
use Rattle.outcome.specs.declared.Refused.{Refused}
use Rattle.theory.specs.Expression.{NodeExpr}
use Rattle.sheet.specs.Sheet.{count_of, question_of, sheet_refusal}
use Rattle.question_measure.specs.Text.{question_text, text_length, chain, most_chain, most_length}

-- What both operations answer: the length of the text, or a refusal.
abbrev pub Answer : Type 0
Answer = Result ℕ Refused

-- A refusal of the call.
abbrev pub refused : Refusal → Answer
refused r = Err (of_part part.Call r)

-- The text of entry k of the sheet s.
abbrev pub text_of : List ℕ → ℕ → List ℕ
text_of s k = question_text (question_of s k)

-- Of a question that there is: 28, 29, else the length.
unfoldable pub question_answer : NodeExpr → Answer
question_answer q =
    cond (ltb most_chain (chain q)) (refused says.LongChain) (cond (ltb most_length (text_length q)) (refused says.LongText) (Ok (text_length q)))

-- "A second operation gives the exact length without writing": the sheet's refusals, 25, 28, 29, else the length.
unfoldable pub length_answer : List ℕ → ℕ → Answer
length_answer s k =
    cond (eqb (sheet_refusal s) 0) (cond (ltb k (count_of s)) (question_answer (question_of s k)) (refused says.NoEntry)) (Err (of_part part.Sheet (named (sheet_refusal s))))

-- "For writing only, 30, less room than the length", where m bytes are lent.
unfoldable pub with_room : ℕ → Answer → Answer
with_room m (Ok n) = cond (ltb m n) (refused says.TextRoom) (Ok n)
with_room m (Err r) = Err r

-- "An operation that writes a text answers its length."
abbrev pub write_answer : List ℕ → ℕ → ℕ → Answer
write_answer s k m = with_room m (length_answer s k)

-- The room after an answer: the text, and "bytes after the text stay"; on a refusal it stays.
unfoldable pub left_by : List ℕ → List ℕ → Answer → List ℕ
left_by text room (Ok n) = text ++ drop n room
left_by text room (Err r) = room

-- The room that writing leaves.
abbrev pub write_leaves : List ℕ → ℕ → List ℕ → List ℕ
write_leaves s k room = left_by (text_of s k) room (write_answer s k (length room))

-- The numbers of each answer. A length has up to 32 bits: the lowest 24 are the first value, the others the second, so that the outcome's number
-- is 2 to the 16 times the length.
abbrev pub text_outcome : Answer → Outcome
text_outcome (Ok n) = accepted (n % 2 ^ 24) (n / 2 ^ 24)
text_outcome (Err r) = declined r

-- The answer a and the room at exit are the right ones.
pub record Written {A : Type 0} (right : A) (leaves : List ℕ) (a : A) (room : List ℕ) : Type 0 where
  pub answer : a ≡ right
  pub bytes : room ≡ leaves

-- Writing entry k of the sheet s into the room: its answer a, and the room at exit.
abbrev pub IsWrite : List ℕ → ℕ → List ℕ → Answer → List ℕ → Type 0
IsWrite s k room a room' = Written (write_answer s k (length room)) (write_leaves s k room) a room'

-- The same, with the answer as one number.
abbrev pub IsWriteCode : List ℕ → ℕ → List ℕ → ℕ → List ℕ → Type 0
IsWriteCode s k room v room' = Written (code (text_outcome (write_answer s k (length room)))) (write_leaves s k room) v room'
