-- Laws of text: the digits of a number, and pieces one behind another.
use Rattle.std.specs.Prelude.{Bool, true, false, cond, List, [], ◌∷◌, ◌++◌, ◌≡◌, refl, ℕ, zero, suc, ◌+◌, ◌/◌, ◌%◌, ◌^◌, ◌≤◌, ◌<◌, ltb, length, take}
use Rattle.std.proofs.Common.{append_assoc, ap, ◌∙◌, pow-suc, arith, lt-ltb, le-ltb, ltb-false, length-append}
use Rattle.fields.specs.Runs.{PutBytes}
use Rattle.fields.specs.RunLaws.{put_length, put_front}
use Rattle.text.specs.Text.{digit, numeral, decimal, most_digits, Wrote}

-- ---- the digits of a number

-- as many digits as there may be, and more, make no difference
enough : (f g n : ℕ) → n ≤ f → n ≤ g → numeral f n ≡ numeral g n
unfolding numeral
enough zero zero n h k = refl
enough zero (suc g) n h k = rw (let e : n ≡ 0 = omega arith in e)
enough (suc f) zero n h k = rw (let e : n ≡ 0 = omega arith in e)
enough (suc f) (suc g) n h k = go (ltb n 10) refl (λ l. enough f g (n / 10) (omega arith) (omega arith))
  where
    go : (b : Bool) → ltb n 10 ≡ b → (10 ≤ n → numeral f (n / 10) ≡ numeral g (n / 10))
        → cond b (digit n ∷ []) (numeral f (n / 10) ++ digit (n % 10) ∷ []) ≡ cond b (digit n ∷ []) (numeral g (n / 10) ++ digit (n % 10) ∷ [])
    go true e f = refl
    go false e f = ap (λ l. l ++ digit (n % 10) ∷ []) (f (ltb-false n 10 e))

-- one digit
pub decimal-one : (n : ℕ) → n < 10 → decimal n ≡ digit n ∷ []
unfolding numeral
decimal-one zero h = refl
decimal-one (suc n) h = rw (lt-ltb (suc n) 10 h)

-- the last digit behind the others
pub decimal-more : (n : ℕ) → 10 ≤ n → decimal n ≡ decimal (n / 10) ++ digit (n % 10) ∷ []
unfolding numeral
decimal-more zero h = absurd (omega arith)
decimal-more (suc n) h = rw (le-ltb (suc n) 10 h) (ap (λ l. l ++ digit (suc n % 10) ∷ []) (enough n (suc n / 10) (suc n / 10) (omega arith) (omega arith)))

-- two digits
pub decimal-two : (n : ℕ) → 10 ≤ n → n < 100 → decimal n ≡ digit (n / 10) ∷ digit (n % 10) ∷ []
decimal-two n h l = decimal-more n h ∙ rw (decimal-one (n / 10) (omega arith))

-- the last two digits behind the others
pub decimal_hundreds : (n : ℕ) → 100 ≤ n → decimal n ≡ decimal (n / 100) ++ (digit (n % 100 / 10) ∷ digit (n % 100 % 10) ∷ [])
decimal_hundreds n h =
    decimal-more n (omega arith) ∙ ap (λ l. l ++ digit (n % 10) ∷ []) (decimal-more (n / 10) (omega arith))
    ∙ append_assoc (decimal (n / 10 / 10)) (digit (n / 10 % 10) ∷ []) (digit (n % 10) ∷ [])
    ∙ rw (let e : n / 10 / 10 ≡ n / 100 = omega arith in e, let f : n / 10 % 10 ≡ n % 100 / 10 = omega arith in f, let g : n % 10 ≡ n % 100 % 10 = omega arith in g)

pub length-decimal_hundreds : (n : ℕ) → 100 ≤ n → length (decimal n) ≡ length (decimal (n / 100)) + 2
length-decimal_hundreds n h =
    omega (arith, ap length (decimal_hundreds n h), length-append (decimal (n / 100)) (digit (n % 100 / 10) ∷ digit (n % 100 % 10) ∷ []))

-- a number below ten to the k has at most k digits
pub length-numeral : (k more n : ℕ) → n < 10 ^ suc k → length (numeral more n) ≤ suc k
unfolding numeral
length-numeral k zero n h = omega arith
length-numeral zero (suc more) n h = rw (lt-ltb n 10 (omega arith)) (omega arith)
length-numeral (suc k) (suc more) n h = go (ltb n 10) (length-numeral k more (n / 10) (omega (arith, pow-suc 10 (suc k))))
  where
    go : (b : Bool) → length (numeral more (n / 10)) ≤ suc k → length (cond b (digit n ∷ []) (numeral more (n / 10) ++ digit (n % 10) ∷ [])) ≤ suc (suc k)
    go true l = omega arith
    go false l = omega (arith, length-append (numeral more (n / 10)) (digit (n % 10) ∷ []))

-- a 64-bit number has at most 20
pub decimal_few : (n : ℕ) → n < 2 ^ 64 → length (decimal n) ≤ most_digits
decimal_few n h = length-numeral 19 n n (omega arith)

-- ---- pieces

-- two pieces are one
pub wrote_both : {room mid exit : List ℕ} {at to next : ℕ} {s t : List ℕ} {m k : ℕ}
    → Wrote room at s m mid to → Wrote mid to t k exit next → Wrote room at (s ++ t) (m + k) exit next
wrote_both {room} {mid} {exit} {at} {to} {next} {s} {t} p q =
    record {
      bytes = q.bytes ∙ ap (λ x. x ++ t) p.bytes ∙ append_assoc (take at room) s t;
      size = q.size ∙ p.size;
      few = omega (arith, p.few, q.few);
    }

-- a looser bound
pub wrote_within : {room exit : List ℕ} {at next : ℕ} {s : List ℕ} {m k : ℕ} → m ≤ k → Wrote room at s m exit next → Wrote room at s k exit next
wrote_within h w = record { bytes = w.bytes; size = w.size; few = omega (arith, w.few) }

-- a run of bytes is a piece
pub wrote_run : {room exit : List ℕ} {at next most : ℕ} {s : List ℕ} → at + length s ≤ length room → length s ≤ most → PutBytes room at s exit next → Wrote room at s most exit next
wrote_run h m p = record { bytes = put_front h p; size = put_length p; few = omega (arith, p.end) }
