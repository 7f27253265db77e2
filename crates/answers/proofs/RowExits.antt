-- What each way out of Row shows of the definitions of `specs/`. The numbers that the code computed are variables here, with what is known
-- of them, so that `search` finds them in a need's record.
use mathlib.Core.List.{List}
use mathlib.Core.Path.{◌≡◌, sym, ap, ap₂, ◌∙◌}
use Prim.Native.Nat.{ℕ, suc, ◌+◌, ◌*◌, ◌/◌, ◌^◌, ◌≤◌, ◌<◌}
use native.Mathlib.Nat.{le-div_iff_mul-le, div-lt_iff_lt-mul, suc-mul}
use native.Mathlib.Omega.{arith}
use borrow.Author.Tests.{lt-ltb, le-ltb, eq-eqb, ne_eqb}
use lib.Bits.{bit_or}
use lib.ListN.{length, get_or}
use Rattle.words.specs.Words.{bit, tally, word_of, IsCount}
use Rattle.words.specs.Laws.{word-in, word_out}
use Rattle.answers.specs.Row.{row_refusal, zero_from, row_word, row_count, row, row_answer}
use Rattle.answers.specs.RowLaws.{Whole, row_whole, whole_row, row_count_bits, row-given, row_answered}
use Rattle.std.specs.Prelude.{Result, Ok, Err}
use Rattle.outcome.specs.Refused.{number}
use Rattle.outcome.specs.RefusalLaws.{judged-err}
use Rattle.outcome.specs.declared.Refusal.{Refusal}
use Rattle.answers.specs.declared.RowSet.{RowSet}

-- ---- the refusals of a row
module _ (map : List ℕ) (m i : ℕ) where
  pub row_none : m ≡ 0 → 27 ≡ row_refusal map m i
  unfolding row_refusal
  row_none z = simp (eq-eqb m 0 z)

  module _ (f : m ≡ 0 → ⊥) where
    pub row_many : 64 < m → 27 ≡ row_refusal map m i
    unfolding row_refusal
    row_many h = simp (ne_eqb m 0 f, lt-ltb 64 m h)

    positive : 0 < m
    positive = omega arith

    module _ (h : m ≤ 64) where
      -- there are length map / m whole rows
      pub row_outside : length map / m ≤ i → 26 ≡ row_refusal map m i
      unfolding row_refusal
      row_outside l =
          let o : length map < suc i * m = (div-lt_iff_lt-mul positive).0 (omega arith) in
          let e = suc-mul i m in
          simp (ne_eqb m 0 f, le-ltb 64 m h, lt-ltb (length map) (i * m + m) (omega arith))

      pub row_inside : i < length map / m → 0 ≡ row_refusal map m i
      row_inside l =
          let o : suc i * m ≤ length map = (le-div_iff_mul-le positive).0 l in
          let e = suc-mul i m in
          sym (whole_row map m i (record { some = positive; most = h; inside = omega arith }))

-- ---- Row: r is the refusal
pub row-refused : (map : List ℕ) (m i : ℕ) (r : Refusal) → number r ≡ row_refusal map m i → Err r ≡ row_answer map m i
unfolding row_answer
row-refused map m i r d = sym (judged-err (row_refusal map m i) (row (row_word map m i) (row_count map m i)) r d)

module _ (map : List ℕ) (m i : ℕ) (d : 0 ≡ row_refusal map m i) where
  whole : Whole map m i
  whole = row_whole map m i (sym d)

  pub row_few : m ≤ 64
  row_few = whole.most

  pub row_ends : i * m + m ≤ length map
  row_ends = whole.inside

  pub row_starts : length map < 2 ^ 64 → i * m < 2 ^ 64
  row_starts f = omega (arith, row_ends)

  pub row-counted : (word count : ℕ) → word ≡ row_word map m i → IsCount word count → Ok (row word count) ≡ row_answer map m i
  row-counted word count w n =
      let e : count ≡ row_count map m i = n.is ∙ ap (λ (x : ℕ). tally 64 (bit x)) w ∙ row_count_bits map m i row_few in
      ap₂ (λ w c. Ok (row w c)) w e ∙ sym (row-given map m i whole)

-- ---- the answer as a number
pub row_small : (map : List ℕ) (m i : ℕ) (r : RowSet) → Ok r ≡ row_answer map m i → r.count < 2 ^ 24
row_small map m i r p = let s = (row_answered map m i r.word r.count (sym p)).small in omega arith
