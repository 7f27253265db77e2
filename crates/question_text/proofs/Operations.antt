-- What each way out of the two operations shows of the definitions of `specs/`.
use mathlib.Core.List.{List, ◌++◌}
use mathlib.Core.Bool.{false}
use mathlib.Core.Path.{◌≡◌, refl, sym, ap, ◌∙◌}
use Prim.Native.Nat.{ℕ, ◌+◌, ◌≤◌, ◌<◌}
use native.Mathlib.Omega.{arith}
use borrow.Author.Tests.{lt-ltb, le-ltb, eq-eqb, ne_eqb}
use lib.Dec.{ltb}
use lib.ListN.{length, drop}
use lib.Seq.{sets-eq}
use Rattle.std.specs.Prelude.{Result, Ok, Err, IfOk}
use Rattle.std.specs.Borrow.{Bor}
use Rattle.std.proofs.lemmas.Result.{IfOk-at_ok}
use Rattle.fields.specs.Runs.{PutBytes}
use Rattle.outcome.specs.Outcome.{code}
use Rattle.outcome.specs.Refused.{named, of_part}
use Rattle.outcome.specs.declared.Refusal.TheVariants as says
use Rattle.outcome.specs.declared.Part.TheVariants as part
use Rattle.outcome.specs.declared.Refused.{Refused}
use Rattle.theory.specs.Expression.{NodeExpr}
use Rattle.sheet.specs.Sheet.{count_of, question_of, sheet_refusal}
use Rattle.sheet.specs.declared.accepted.Sheet.{Sheet}
use Rattle.question_measure.specs.Text.{text_length, chain, most_chain, most_length}
use Rattle.question_measure.specs.Measures.{measured}
use Rattle.question_measure.specs.declared.Measure.{Measure}
use Rattle.question_text.specs.Answer.{Answer, refused, text_of, question_answer, length_answer, with_room, left_by, IsWrite, IsWriteCode, text_outcome}
use Rattle.question_text.specs.Laws.{length_told}

-- ---- an entry that there is
module _ (q : NodeExpr) (m : Measure) (d : m ≡ measured q) where
  pub chain_long : most_chain < m.chain → refused says.LongChain ≡ question_answer q
  unfolding question_answer
  chain_long h = rw (lt-ltb most_chain (chain q) (omega (arith, ap (λ m. m.chain) d)))

  module _ (c : m.chain ≤ most_chain) where
    short : ltb most_chain (chain q) ≡ false
    short = le-ltb most_chain (chain q) (omega (arith, ap (λ m. m.chain) d))

    pub text_long : most_length < m.length → refused says.LongText ≡ question_answer q
    unfolding question_answer
    text_long h = rw (short, lt-ltb most_length (text_length q) (omega (arith, ap (λ m. m.length) d)))

    pub text_told : m.length ≤ most_length → ◌≡◌ {A = Answer} (Ok m.length) (question_answer q)
    unfolding question_answer
    text_told h =
        rw (short, le-ltb most_length (text_length q) (omega (arith, ap (λ m. m.length) d)))
        (ap Ok (omega (arith, ap (λ m. m.length) d)))

-- ---- the sheet

-- an accepted sheet is of the bytes that were lent to its check
pub checked_bytes : {E : Type 0} {r : Result Sheet E} {sheet : Sheet} (bytes : Bor (List ℕ)) → r ≡ Ok sheet → IfOk r (λ s. s.bytes ≡ bytes) → sheet.bytes.now ≡ bytes.now
checked_bytes bytes e h = ap (λ x. x.now) (IfOk-at_ok (λ s. s.bytes ≡ bytes) e h)

module _ (s : List ℕ) (k : ℕ) where
  pub checked_refused : (r : Refused) → (r ≡ of_part part.Sheet (named (sheet_refusal s))) × (sheet_refusal s ≡ 0 → ⊥) → Err r ≡ length_answer s k
  unfolding length_answer
  checked_refused r d = rw (d.0, ne_eqb (sheet_refusal s) 0 d.1)

  module _ (good : sheet_refusal s ≡ 0) where
    pub checked_none : count_of s ≤ k → refused says.NoEntry ≡ length_answer s k
    unfolding length_answer
    checked_none h = sym (rw (eq-eqb (sheet_refusal s) 0 good, le-ltb k (count_of s) h))

    pub checked_told : (b : Answer) → k < count_of s → b ≡ question_answer (question_of s k) → b ≡ length_answer s k
    unfolding length_answer
    checked_told b h g = g ∙ sym (rw (eq-eqb (sheet_refusal s) 0 good, lt-ltb k (count_of s) h))

-- ---- the text of an entry that is there
pub text_put : (text room exit : List ℕ) (next : ℕ) → length text ≤ length room → PutBytes room 0 text exit next → exit ≡ text ++ drop (length text) room
text_put text room exit next h p = p.left ∙ sets-eq text room 0 (omega arith) ∙ ap (λ m. text ++ drop m room) (let z : 0 + length text ≡ length text = omega arith in z)

-- ---- writing: a is what the length operation answers
module _ (s : List ℕ) (k : ℕ) (room : List ℕ) (a : Answer) (d : a ≡ length_answer s k) where
  module _ (n : ℕ) (e : a ≡ Ok n) where
    pub write_small : length room < n → IsWrite s k room (refused says.TextRoom) room
    unfolding with_room left_by
    write_small h = rw (← d, e, lt-ltb (length room) n h) (record { answer = refl; bytes = refl })

    pub write_good : sheet_refusal s ≡ 0
    write_good = (length_told s k n (sym e ∙ d)).good

    pub write_there : k < count_of s
    write_there = (length_told s k n (sym e ∙ d)).there

    pub write_fits : n ≤ length room → length (text_of s k) ≤ length room
    write_fits h = let x = (length_told s k n (sym e ∙ d)).exact in omega arith

    pub write_done : (exit : List ℕ) → n ≤ length room → exit ≡ text_of s k ++ drop (length (text_of s k)) room → IsWrite s k room (Ok n) exit
    unfolding with_room left_by
    write_done exit h x =
        let t = length_told s k n (sym e ∙ d) in
        rw (← d, e, le-ltb (length room) n h) (record { answer = refl; bytes = x ∙ ap (λ m. text_of s k ++ drop m room) (sym t.exact) })

  pub write_refused : (r : Refused) → a ≡ Err r → IsWrite s k room (Err r) room
  unfolding with_room left_by
  write_refused r e = rw (← d, e) (record { answer = refl; bytes = refl })

-- ---- the answer as a number
-- the answer is known by its case
pub answered : (a b : Answer) (r : ℕ) → a ≡ b → r ≡ code (text_outcome b) → r ≡ code (text_outcome a)
answered a b r e d = d ∙ ap (λ a. code (text_outcome a)) (sym e)

pub told : {A : Type 0} (f : Answer → A) (a b : Answer) (r : A) → a ≡ b → r ≡ f a → r ≡ f b
told f a b r e d = d ∙ ap f e

pub told_written : (s : List ℕ) (k : ℕ) (room exit : List ℕ) (a : Answer) (r : ℕ) → IsWrite s k room a exit → r ≡ code (text_outcome a) → IsWriteCode s k room r exit
told_written s k room exit a r g d = record { answer = d ∙ ap (λ a. code (text_outcome a)) g.answer; bytes = g.bytes }
