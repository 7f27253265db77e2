-- What the writers leave.
use Rattle.std.specs.Prelude.{List, [], ◌∷◌, ◌++◌, ◌≡◌, ℕ, zero, suc, ◌+◌, ◌*◌, ◌/◌, ◌%◌, ◌^◌, ◌≤◌, ◌<◌, max, length, take, drop}
use Rattle.std.specs.Fmt.{decimal as printed}
use Rattle.std.proofs.Common.{append_assoc, sym, ap, ◌∙◌, arith, pow-suc, length-append}
use Rattle.std.proofs.lemmas.Fmt.{decimal_by_steps}
use Rattle.std.proofs.lemmas.List.{take-append-drop}
use Rattle.std.proofs.lemmas.List.Edits.{sets-eq}
use Rattle.fields.specs.Runs.{PutBytes}
use Rattle.fields.specs.RunLaws.{put_as, put_after}
use Rattle.text.specs.Text.{digit, numeral, decimal, most_digits, Wrote}
use Rattle.text.specs.Laws.{decimal-one, decimal-two, decimal-more, decimal_few, wrote_both, wrote_run}

-- ---- the digits of a number

length-decimal_between : (k n : ℕ) → 10 ^ k ≤ n → n < 10 * 10 ^ k → k + 1 ≡ length (decimal n)
length-decimal_between zero n l h = sym (ap length (decimal-one n (omega arith)))
length-decimal_between (suc k) n l h =
    let p : 10 ^ suc k ≡ 10 * 10 ^ k = omega (arith, pow-suc 10 k) in
    omega (arith, length-decimal_between k (n / 10) (omega arith) (omega arith), ap length (decimal-more n (omega arith)), length-append (decimal (n / 10)) (digit (n % 10) ∷ []))

pub digits_counted : (n m k : ℕ) → m ≡ max n 1 → 10 ^ k ≤ m → m < 10 * 10 ^ k → k + 1 ≡ length (decimal n)
unfolding numeral
digits_counted zero m k e l h = length-decimal_between k 1 (omega arith) (omega arith)
digits_counted (suc n) m k e l h = length-decimal_between k (suc n) (omega arith) (omega arith)

-- one digit, and two
pub one_long : (n : ℕ) → n < 10 → length (decimal n) ≡ 1
one_long n h = ap length (decimal-one n h)

pub two_long : (n : ℕ) → 10 ≤ n → n < 100 → length (decimal n) ≡ 2
two_long n h l = ap length (decimal-two n h l)

module _ {room exit : List ℕ} {at n next : ℕ} where
  pub one_put : n < 10 → PutBytes room at ((48 + n) ∷ []) exit next → PutBytes room at (decimal n) exit next
  one_put h p = put_as (sym (decimal-one n h)) p

  pub two_put : 10 ≤ n → n < 100 → PutBytes room at (digit (n / 10) ∷ digit (n % 10) ∷ []) exit next → PutBytes room at (decimal n) exit next
  two_put h l p = put_as (sym (decimal-two n h l)) p

pub pair_put : (room mid exit : List ℕ) (at n to next : ℕ) → PutBytes room at ((48 + n / 10) ∷ []) mid to → PutBytes mid to ((48 + n % 10) ∷ []) exit next
    → PutBytes room at (digit (n / 10) ∷ digit (n % 10) ∷ []) exit next
pair_put room mid exit at n to next p q = put_after p q

-- the library writes the same digits
pub as_printed : (n : ℕ) → n < 2 ^ 64 → printed n ≡ decimal n
as_printed n =
    decimal_by_steps (λ m ds. ds ≡ decimal m) (λ m h. sym (decimal-one m h)) (λ m ds h e. ap (λ l. l ++ digit (m % 10) ∷ []) e ∙ sym (decimal-more m h)) n

-- digits that end `end` bytes from the front, where `at` bytes stand before them
pub digits_put : {room exit : List ℕ} {at n end : ℕ} (from : ℕ) → n < 2 ^ 64 → at + length (decimal n) ≤ length room → end ≡ at + length (decimal n)
    → from + length (printed n) ≡ end → drop from exit ≡ printed n ++ drop end room → take from exit ≡ take from room → PutBytes room at (decimal n) exit end
digits_put {room} {exit} {at} {n} {end} from l h e s d t =
    let p = as_printed n l in
    let f : from ≡ at = omega (arith, ap length p) in
    record {
      left = sym (take-append-drop from exit) ∙ rw (t, d, p, f, e, ← append_assoc) (sym (sets-eq (decimal n) room at h));
      end = e;
    }

-- ---- a number behind a name

module _ {room mid : List ℕ} {at to n : ℕ} {name : List ℕ} (l : n < 2 ^ 64) (h : at + (length name + most_digits) ≤ length room) (w : Wrote room at name (length name) mid to) where
  pub labelled_fits : to + length (decimal n) ≤ length mid
  labelled_fits = omega (arith, decimal_few n l, w.size, w.few)

  pub labelled_put : {exit : List ℕ} {next : ℕ} → PutBytes mid to (decimal n) exit next → Wrote room at (name ++ decimal n) (length name + most_digits) exit next
  labelled_put p = wrote_both w (wrote_run labelled_fits (decimal_few n l) p)
