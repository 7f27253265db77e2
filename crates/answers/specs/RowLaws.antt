-- Laws of Row: what a row that is not refused is, and what its word and its count say of the map.
use Rattle.std.specs.Prelude.{Bool, true, false, cond, ◌||◌, List, ◌≡◌, refl, ℕ, ◌+◌, ◌*◌, ◌≤◌, eqb, ltb, length, Ok, Err}
use Rattle.std.proofs.Common.{sym, ap, ◌∙◌, lt_of_lt_of_le, arith, le-ltb, ltb-false, eq-eqb, ne_eqb, eqb-true, pow_mono}
use Rattle.std.proofs.lemmas.Bool.{eqb-false}
use Rattle.words.specs.Words.{bit, tally, word_of}
use Rattle.words.specs.Laws.{ones_tally, tally-le, tally-word_of, word_of-lt}
use Rattle.outcome.specs.Refused.{named, judged}
use Rattle.outcome.specs.RefusalLaws.{judged-ok}
use Rattle.answers.specs.Row.{most_cells, row_refusal, zero_from, row_word, row_count, row, row_answer}

-- ---- a row that is not refused
-- m is in range, and row i is wholly in the map.
pub record Whole (map : List ℕ) (m i : ℕ) : Type 0 where
  pub some : 1 ≤ m
  pub most : m ≤ most_cells
  pub inside : i * m + m ≤ length map

pub row_whole : (map : List ℕ) (m i : ℕ) → row_refusal map m i ≡ 0 → Whole map m i
unfolding row_refusal
row_whole map m i h =
    go (eqb m 0) refl (ltb most_cells m) refl (ltb (length map) (i * m + m)) refl h
  where
    go : (a : Bool) → eqb m 0 ≡ a → (b : Bool) → ltb most_cells m ≡ b → (c : Bool) → ltb (length map) (i * m + m) ≡ c
        → ◌≡◌ {A = ℕ} (cond (a || b) 27 (cond c 26 0)) 0 → Whole map m i
    go true d b e c f z = absurd (omega arith)
    go false d true e c f z = absurd (omega arith)
    go false d false e true f z = absurd (omega arith)
    go false d false e false f z =
        let n = eqb-false m 0 d in
        record { some = omega arith; most = ltb-false _ _ e; inside = ltb-false _ _ f }

pub whole_row : (map : List ℕ) (m i : ℕ) → Whole map m i → row_refusal map m i ≡ 0
unfolding row_refusal
whole_row map m i w =
    simp (ne_eqb m 0 (λ z. omega (arith, w.some)), le-ltb most_cells m w.most, le-ltb (length map) (i * m + m) w.inside)

-- ---- the word and the count
-- the bits from n on of a word of n bits add nothing to the count
pub tally-word_of-more : (n k : ℕ) (p : ℕ → Bool) → n ≤ k → tally k (bit (word_of n p)) ≡ tally n p
tally-word_of-more n k p h =
    sym (ones_tally k (word_of n p) (lt_of_lt_of_le (word_of-lt n p) (pow_mono h)))
    ∙ ones_tally n (word_of n p) (word_of-lt n p) ∙ tally-word_of n p

-- the count is that of the word's bits
pub row_count_bits : (map : List ℕ) (m i : ℕ) → m ≤ most_cells → tally most_cells (bit (row_word map m i)) ≡ row_count map m i
row_count_bits map m i h = tally-word_of-more m most_cells (zero_from map (i * m)) h

-- ---- an answer
-- A row that is wholly in the map is answered.
pub row-given : (map : List ℕ) (m i : ℕ) → Whole map m i → row_answer map m i ≡ Ok (row (row_word map m i) (row_count map m i))
unfolding row_answer
row-given map m i w = judged-ok (row_refusal map m i) (row (row_word map m i) (row_count map m i)) (whole_row map m i w)

-- What an answer that is no refusal shows.
pub record Answered (map : List ℕ) (m i word count : ℕ) : Type 0 where
  pub whole : Whole map m i
  pub is_word : word ≡ row_word map m i
  pub is_count : count ≡ row_count map m i
  pub small : count ≤ most_cells

pub row_answered : (map : List ℕ) (m i word count : ℕ) → row_answer map m i ≡ Ok (row word count) → Answered map m i word count
unfolding row_answer judged
row_answered map m i word count h = go (eqb (row_refusal map m i) 0) refl h
  where
    go : (b : Bool) → eqb (row_refusal map m i) 0 ≡ b → cond b (Ok (row (row_word map m i) (row_count map m i))) (Err (named (row_refusal map m i))) ≡ Ok (row word count)
        → Answered map m i word count
    go true e z =
        let w = row_whole map m i (eqb-true _ _ e) in
        let d : row word count ≡ row (row_word map m i) (row_count map m i) = cc in
        let c : count ≡ row_count map m i = ap (λ r. r.count) d in
        record { whole = w; is_word = ap (λ r. r.word) d; is_count = c; small = omega (arith, w.most, tally-le m (zero_from map (i * m))) }
    go false e z = cc
