-- The writers of questions: what each call needs and what each exit leaves, piece by piece.
use mathlib.Core.List.{List, [], ◌∷◌, ◌++◌, append_assoc}
use mathlib.Core.Path.{◌≡◌, refl, sym, ap, ◌∙◌}
use Prim.Native.Nat.{ℕ, ◌+◌, ◌≤◌, ◌<◌}
use native.Mathlib.Omega.{arith}
use lib.ListN.{length, get_or}
use Rattle.fields.specs.Runs.{PutBytes}
use Rattle.fields.specs.RunLaws.{put_as, put_after, piece_fits, rest_fits}
use Rattle.sheet.specs.Entry.{kind_of, numbers}
use Rattle.sheet.specs.Sheet.{entry_at}
use Rattle.sheet.specs.Reading.{HasNumber}
use Rattle.sheet.proofs.ReadingLaws.{has_number}
use Rattle.text.specs.Text.{ascii}
use Rattle.question_text.specs.Answer.{text_of}
use Rattle.question_text.specs.Writing.{Started, EntryAt, junction_by, questions_of, between}
use Rattle.question_text.proofs.Entries.{text_true, text_not, text_two, Entered, entered_readable, entered_text}

-- ---- put_between
module _ (room : List ℕ) (at a : ℕ) (text : List ℕ) (b : ℕ) where
  pub between_first : at + length (between a text b) ≤ length room → at + 1 ≤ length room
  between_first h = piece_fits room at (between a text b) (a ∷ []) (text ++ (b ∷ [])) refl h

  module _ (mid : List ℕ) (to : ℕ) (p : PutBytes room at (a ∷ []) mid to) where
    between-rest : at + length (between a text b) ≤ length room → to + length (text ++ (b ∷ [])) ≤ length mid
    between-rest h = rest_fits (between a text b) (a ∷ []) (text ++ (b ∷ [])) refl h p

    pub between_text : at + length (between a text b) ≤ length room → to + length text ≤ length mid
    between_text h = piece_fits mid to (text ++ (b ∷ [])) text (b ∷ []) refl (between-rest h)

    module _ (mid' : List ℕ) (to' : ℕ) (p' : PutBytes mid to text mid' to') where
      pub between_last : at + length (between a text b) ≤ length room → to' + 1 ≤ length mid'
      between_last h = rest_fits (text ++ (b ∷ [])) text (b ∷ []) refl (between-rest h) p'

      pub between_put : (exit : List ℕ) (next : ℕ) → PutBytes mid' to' (b ∷ []) exit next → PutBytes room at (between a text b) exit next
      between_put exit next r = put_after p (put_after p' r)

-- ---- put_question
pub question_at : (s starts : List ℕ) (k start : ℕ) → Started s starts (length starts) → k < length starts → start ≡ get_or starts k 0 → EntryAt s starts k start
question_at s starts k start o h d = record { listed = h; place = d ∙ o.places.each k h }

module _ (s : List ℕ) (k start : ℕ) (o : Entered s k start) (q : 0 ≡ kind_of (entry_at s start)) (room : List ℕ) (at : ℕ) where
  true_text : text_of s k ≡ ascii "<.>"
  true_text = entered_text s k start o ∙ text_true (questions_of s) (entry_at s start) (sym q)

  pub true_fits : at + length (text_of s k) ≤ length room → at + 3 ≤ length room
  true_fits h = omega (arith, ap length true_text)

  pub true_put : (exit : List ℕ) (next : ℕ) → PutBytes room at (ascii "<.>") exit next → PutBytes room at (text_of s k) exit next
  true_put exit next p = put_as (sym true_text) p

-- ---- put_not
module _ (s : List ℕ) (k start : ℕ) (o : Entered s k start) (kd : kind_of (entry_at s start) ≡ 1) where
  pub not_number : HasNumber s start 0
  not_number = has_number (entered_readable s k start o) 0 (omega arith) (omega arith) (omega arith)

  module _ (i : ℕ) (d : i ≡ get_or (numbers (entry_at s start)) 0 0) (room : List ℕ) (at : ℕ) where
    not_text : text_of s k ≡ ascii "!" ++ between 40 (text_of s i) 41
    not_text = entered_text s k start o ∙ text_not (questions_of s) (entry_at s start) kd ∙ ap (λ i. ascii "!(" ++ (text_of s i ++ ascii ")")) (sym d)

    pub not_first : at + length (text_of s k) ≤ length room → at + 1 ≤ length room
    not_first h = piece_fits room at (text_of s k) (ascii "!") (between 40 (text_of s i) 41) not_text h

    module _ (mid : List ℕ) (to : ℕ) (p : PutBytes room at (33 ∷ []) mid to) where
      pub not-part : at + length (text_of s k) ≤ length room → to + length (between 40 (text_of s i) 41) ≤ length mid
      not-part h = rest_fits (text_of s k) (ascii "!") (between 40 (text_of s i) 41) not_text h p

      pub not_put : (exit : List ℕ) (next : ℕ) → PutBytes mid to (between 40 (text_of s i) 41) exit next → PutBytes room at (text_of s k) exit next
      not_put exit next r = put_as (sym not_text) (put_after p r)

-- ---- put_two
module _ (s : List ℕ) (k start kind : ℕ) (o : Entered s k start) (q : kind ≡ kind_of (entry_at s start)) (b : 2 ≤ kind) (u : kind < 4) where
  pub two-first : HasNumber s start 0
  two-first = has_number (entered_readable s k start o) 0 (omega arith) (omega arith) (omega arith)

  pub two_second : HasNumber s start 1
  two_second = has_number (entered_readable s k start o) 1 (omega arith) (omega arith) (omega arith)

  -- the second part, and the end
  rest : List ℕ
  rest = text_of s (get_or (numbers (entry_at s start)) 1 0) ++ ascii ")"

  module _ (i byte : ℕ) (d : i ≡ get_or (numbers (entry_at s start)) 0 0) (e : byte ≡ junction_by kind) (room : List ℕ) (at : ℕ) where
    two_text : text_of s k ≡ between 40 (text_of s i) byte ++ rest
    unfolding rest
    two_text =
        entered_text s k start o ∙ text_two (questions_of s) (entry_at s start) (omega arith) (omega arith)
        ∙ rw (d, e, q) (sym (ap (λ l. 40 ∷ l) (append_assoc (text_of s (get_or (numbers (entry_at s start)) 0 0)) _ _)))

    pub two_opens : at + length (text_of s k) ≤ length room → at + length (between 40 (text_of s i) byte) ≤ length room
    two_opens h = piece_fits room at (text_of s k) (between 40 (text_of s i) byte) rest two_text h

    module _ (mid : List ℕ) (to : ℕ) (p : PutBytes room at (between 40 (text_of s i) byte) mid to) (j : ℕ) (d' : j ≡ get_or (numbers (entry_at s start)) 1 0) where
      two-rest : at + length (text_of s k) ≤ length room → to + length (text_of s j ++ ascii ")") ≤ length mid
      unfolding rest
      two-rest h = rw d' (rest_fits (text_of s k) (between 40 (text_of s i) byte) rest two_text h p)

      pub two-other : at + length (text_of s k) ≤ length room → to + length (text_of s j) ≤ length mid
      two-other h = piece_fits mid to (text_of s j ++ ascii ")") (text_of s j) (ascii ")") refl (two-rest h)

      module _ (mid' : List ℕ) (to' : ℕ) (p' : PutBytes mid to (text_of s j) mid' to') where
        pub two_closes : at + length (text_of s k) ≤ length room → to' + 1 ≤ length mid'
        two_closes h = rest_fits (text_of s j ++ ascii ")") (text_of s j) (ascii ")") refl (two-rest h) p'

        pub two_put : (exit : List ℕ) (next : ℕ) → PutBytes mid' to' (41 ∷ []) exit next → PutBytes room at (text_of s k) exit next
        unfolding rest
        two_put exit next r = put_as (sym (two_text ∙ ap (λ j. between 40 (text_of s i) byte ++ (text_of s j ++ ascii ")")) (sym d'))) (put_after p (put_after p' r))
