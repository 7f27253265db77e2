-- The laws of a word's bits, each stated once: the operations, extensionality, the word of a test, the count, the lowest bit, and a cell taken away.
use Rattle.std.specs.Prelude.{◌≡◌, refl, Bool, true, false, cond, ◌&&◌, ◌||◌, not, ◌↔◌, ℕ, zero, suc, ◌+◌, ◌-◌, ◌*◌, ◌/◌, ◌%◌, ◌^◌, ◌≤◌, ◌<◌, eqb, ltb}
use Rattle.std.proofs.Common.{sym, ap, ap₂, ◌∙◌, ⊎_elim, suc-le-suc, mod-lt, div-one, pow-suc, zero-lt-suc, lt_of_le_of_lt, lt_of_lt_of_le, one-mul, zero-add, eq-or-lt_of_le, pos_of_ne-zero, one-add, add-one, arith, eqb-true, eq-eqb, lt-ltb, lit<, shr-shr, pow_pos, pow_mono}
use Rattle.std.proofs.lemmas.Bool.{false≢true}
use Rattle.std.proofs.Math.Bool.{So, xor, and-false, and_assoc}
use Rattle.std.proofs.Math.Nat.{zero-div}
use Rattle.std.proofs.Math.Decide.{dec_lt}
use Rattle.std.proofs.Math.Arith.{lt-one}
use Rattle.std.specs.Int.Bits.{bit_and, bit_or, bit_xor, xor_add_and, and_lt, or_shifted_r}
use Rattle.std.proofs.lemmas.Nat.{and_shr, or_shr, xor_shr, and_mod, or_mod, xor_mod, and_comm, or_lt, xor_lt, and_le_l}
use Rattle.std.specs.Int.Count.{ones, ones_step, count_trailing_zeros, under}
use Rattle.std.proofs.Math.Dec.{eqb-zero-suc, eqb-suc-zero, eqb-suc-suc, leb-zero, leb-suc-zero, leb-suc-suc}
use Rattle.std.proofs.Math.Pow.{pow-lt}
use Rattle.words.specs.Words.{digit, bit, tally, first, word_of, Inside}

-- ---- digits
digit_lt : (b : Bool) → digit b < 2
digit_lt true = lit< tt
digit_lt false = lit< tt

digit_back : (b : Bool) → eqb (digit b) 1 ≡ b
digit_back true = refl
digit_back false = refl

digit_of : (x : ℕ) → x < 2 → x ≡ digit (eqb x 1)
digit_of zero p = refl
digit_of (suc zero) p = refl
digit_of (suc (suc x)) p = absurd (omega arith)

rem_lt : (x : ℕ) → x % 2 < 2
rem_lt x = mod-lt x (lit< tt)

-- a bit is the remainder by 2 of what stands above it
bit-digit : (w i : ℕ) → w / 2 ^ i % 2 ≡ digit (bit w i)
unfolding bit
bit-digit w i = digit_of (w / 2 ^ i % 2) (rem_lt (w / 2 ^ i))

-- ---- two words with the same bits
-- bit 0, and the bits above it
pub bit_at_zero : (w : ℕ) → bit w 0 ≡ eqb (w % 2) 1
unfolding bit
bit_at_zero w = ap (λ (x : ℕ). eqb (x % 2) 1) (div-one w)

pub bit_at_suc : (w i : ℕ) → bit w (suc i) ≡ bit (w / 2) i
unfolding bit
bit_at_suc w i = ap (λ (x : ℕ). eqb (x % 2) 1) (ap (λ (k : ℕ). w / 2 ^ k) (sym (one-add i)) ∙ sym (shr-shr w 1 i))

low_digit : (w : ℕ) → w % 2 ≡ digit (bit w 0)
low_digit w = digit_of (w % 2) (rem_lt w) ∙ ap digit (sym (bit_at_zero w))

half_lt : (n k : ℕ) → n < 2 ^ suc k → n / 2 < 2 ^ k
half_lt n k h = let e = pow-suc 2 k in omega arith

-- two words of k bits with the same bits are the same
pub word_ext : (k a b : ℕ) → a < 2 ^ k → b < 2 ^ k → ((i : ℕ) → i < k → bit a i ≡ bit b i) → a ≡ b
word_ext zero a b p q f = lt-one p ∙ sym (lt-one q)
word_ext (suc k) a b p q f =
    let h : a / 2 ≡ b / 2 = word_ext k (a / 2) (b / 2) (half_lt a k p) (half_lt b k q) (λ i l. sym (bit_at_suc a i) ∙ f (suc i) (suc-le-suc l) ∙ bit_at_suc b i) in
    let d : a % 2 ≡ b % 2 = low_digit a ∙ ap digit (f 0 (zero-lt-suc k)) ∙ sym (low_digit b) in
    omega arith

-- ---- the empty set and the set of one cell
pub bit-zero : (i : ℕ) → bit 0 i ≡ false
unfolding bit
bit-zero i = simp zero-div

pub bit-pow : (i j : ℕ) → bit (2 ^ i) j ≡ eqb i j
unfolding bit
bit-pow zero zero = refl
bit-pow zero (suc j) = bit_at_suc 1 j ∙ bit-zero j ∙ sym (eqb-zero-suc j)
bit-pow (suc i) zero =
    let e = pow-suc 2 i in
    let z : 2 ^ suc i % 2 ≡ 0 = omega arith in
    bit_at_zero (2 ^ suc i) ∙ ap (λ (x : ℕ). eqb x 1) z ∙ sym (eqb-suc-zero i)
bit-pow (suc i) (suc j) =
    let e = pow-suc 2 i in
    let z : 2 ^ suc i / 2 ≡ 2 ^ i = omega arith in
    bit_at_suc (2 ^ suc i) j ∙ ap (λ (x : ℕ). bit x j) z ∙ bit-pow i j ∙ sym (eqb-suc-suc i j)

-- ---- the operations that go bit by bit
-- `op` on words is `on` on their bits
record Bitwise (op : ℕ → ℕ → ℕ) (on : Bool → Bool → Bool) : Type 0 where
  pub above : (a b k : ℕ) → op a b / 2 ^ k ≡ op (a / 2 ^ k) (b / 2 ^ k)
  pub below : (a b k : ℕ) → op a b % 2 ^ k ≡ op (a % 2 ^ k) (b % 2 ^ k)
  pub small : (k a b : ℕ) → a < 2 ^ k → b < 2 ^ k → op a b < 2 ^ k
  pub digits : (x y : Bool) → eqb (op (digit x) (digit y)) 1 ≡ on x y

-- what holds of each two Bools holds of all
each : (P : Bool → Bool → Type 0) → P true true → P true false → P false true → P false false → (x y : Bool) → P x y
each P a b c d true true = a
each P a b c d true false = b
each P a b c d false true = c
each P a b c d false false = d

ands : Bitwise bit_and ◌&&◌
ands = record { above = and_shr; below = and_mod; small = and_lt; digits = each (λ x y. eqb (bit_and (digit x) (digit y)) 1 ≡ x && y) refl refl refl refl }

ors : Bitwise bit_or ◌||◌
ors = record { above = or_shr; below = or_mod; small = or_lt; digits = each (λ x y. eqb (bit_or (digit x) (digit y)) 1 ≡ x || y) refl refl refl refl }

xors : Bitwise bit_xor xor
unfolding xor
xors = record { above = xor_shr; below = xor_mod; small = xor_lt; digits = each (λ x y. eqb (bit_xor (digit x) (digit y)) 1 ≡ xor x y) refl refl refl refl }

bit_op : {op : ℕ → ℕ → ℕ} {on : Bool → Bool → Bool} → Bitwise op on → (a b i : ℕ) → bit (op a b) i ≡ on (bit a i) (bit b i)
unfolding bit
bit_op {op} {on} f a b i =
    ap (λ (x : ℕ). eqb (x % 2) 1) (f.above a b i) ∙ ap (λ (x : ℕ). eqb x 1) (f.below (a / 2 ^ i) (b / 2 ^ i) 1)
    ∙ ap₂ (λ (x y : ℕ). eqb (op x y) 1) (bit-digit a i) (bit-digit b i) ∙ f.digits (bit a i) (bit b i)

pub bit-and : (a b i : ℕ) → bit (bit_and a b) i ≡ bit a i && bit b i
bit-and = bit_op ands

pub bit-or : (a b i : ℕ) → bit (bit_or a b) i ≡ bit a i || bit b i
bit-or = bit_op ors

pub bit-xor : (a b i : ℕ) → bit (bit_xor a b) i ≡ xor (bit a i) (bit b i)
bit-xor = bit_op xors

pub bit_with : (w i j : ℕ) → bit (bit_or w (2 ^ i)) j ≡ bit w j || eqb i j
bit_with w i j = bit-or w (2 ^ i) j ∙ ap (λ (b : Bool). bit w j || b) (bit-pow i j)

-- a cell that is there is taken away
xor_cell : (b e : Bool) → (e ≡ true → b ≡ true) → xor b e ≡ b && not e
unfolding xor
xor_cell true true f = refl
xor_cell true false f = refl
xor_cell false true f = sym (f refl)
xor_cell false false f = refl

pub bit_without : (w i j : ℕ) → bit w i ≡ true → bit (bit_xor w (2 ^ i)) j ≡ bit w j && not (eqb i j)
bit_without w i j t =
    bit-xor w (2 ^ i) j ∙ ap (xor (bit w j)) (bit-pow i j) ∙ xor_cell (bit w j) (eqb i j) (λ e. rw (eqb-true i j e) at t)

-- ---- tests that agree below n
-- what goes over the answers below n from the front is the same for both tests
below_ext : {A : Type 0} (z : A) (s : Bool → A → A) (F : ℕ → (ℕ → Bool) → A) → ((p : ℕ → Bool) → F 0 p ≡ z)
    → ((n : ℕ) (p : ℕ → Bool) → F (suc n) p ≡ s (p 0) (F n (λ i. p (suc i)))) → (n : ℕ) (p q : ℕ → Bool) → ((i : ℕ) → i < n → p i ≡ q i) → F n p ≡ F n q
below_ext z s F d e zero p q f = d p ∙ sym (d q)
below_ext z s F d e (suc n) p q f =
    e n p ∙ ap₂ s (f 0 (zero-lt-suc n)) (below_ext z s F d e n (λ i. p (suc i)) (λ i. q (suc i)) (λ i l. f (suc i) (suc-le-suc l))) ∙ sym (e n q)

pub tally_ext : (n : ℕ) (p q : ℕ → Bool) → ((i : ℕ) → i < n → p i ≡ q i) → tally n p ≡ tally n q
unfolding tally
tally_ext = below_ext 0 (λ b x. digit b + x) tally (λ p. refl) (λ n p. refl)

pub first_ext : (n : ℕ) (p q : ℕ → Bool) → ((i : ℕ) → i < n → p i ≡ q i) → first n p ≡ first n q
unfolding first
first_ext = below_ext 0 (λ b x. cond b 0 (suc x)) first (λ p. refl) (λ n p. refl)

pub word_of_ext : (n : ℕ) (p q : ℕ → Bool) → ((i : ℕ) → i < n → p i ≡ q i) → word_of n p ≡ word_of n q
unfolding word_of
word_of_ext = below_ext 0 (λ b x. x * 2 + digit b) word_of (λ p. refl) (λ n p. refl)

-- ---- the word of a test
pub word_of-lt : (n : ℕ) (p : ℕ → Bool) → word_of n p < 2 ^ n
unfolding word_of
word_of-lt zero p = lit< tt
word_of-lt (suc n) p = let e = pow-suc 2 n in omega (arith, word_of-lt n (λ i. p (suc i)), digit_lt (p 0))

-- p below n, and false from n on
pub bit-word_of : (n : ℕ) (p : ℕ → Bool) (i : ℕ) → bit (word_of n p) i ≡ ltb i n && p i
unfolding word_of
bit-word_of zero p i = bit-zero i ∙ ap (λ (b : Bool). b && p i) (sym (leb-suc-zero i))
bit-word_of (suc n) p zero =
    let l = digit_lt (p 0) in
    let e : (word_of n (λ i. p (suc i)) * 2 + digit (p 0)) % 2 ≡ digit (p 0) = omega arith in
    bit_at_zero (word_of n (λ i. p (suc i)) * 2 + digit (p 0)) ∙ ap (λ (x : ℕ). eqb x 1) e ∙ digit_back (p 0)
    ∙ ap (λ (b : Bool). b && p 0) (sym (leb-suc-suc 0 n ∙ leb-zero n))
bit-word_of (suc n) p (suc i) =
    let l = digit_lt (p 0) in
    let e : (word_of n (λ i. p (suc i)) * 2 + digit (p 0)) / 2 ≡ word_of n (λ i. p (suc i)) = omega arith in
    bit_at_suc (word_of n (λ i. p (suc i)) * 2 + digit (p 0)) i ∙ ap (λ (x : ℕ). bit x i) e ∙ bit-word_of n (λ i. p (suc i)) i
    ∙ ap (λ (b : Bool). b && p (suc i)) (sym (leb-suc-suc (suc i) n))

-- the same, where i is below n
pub bit-word_of-lt : (n : ℕ) (p : ℕ → Bool) (i : ℕ) → i < n → bit (word_of n p) i ≡ p i
bit-word_of-lt n p i l = bit-word_of n p i ∙ ap (λ (b : Bool). b && p i) (lt-ltb i n l)

-- a word of n bits is the word of a test where its bits are what the test says
pub word_of_is : (n w : ℕ) (p : ℕ → Bool) → w < 2 ^ n → ((i : ℕ) → i < n → bit w i ≡ p i) → w ≡ word_of n p
word_of_is n w p h f = word_ext n w (word_of n p) h (word_of-lt n p) (λ i l. f i l ∙ sym (bit-word_of-lt n p i l))

-- what is asked of some numbers below n, asked of all below m
pub word_of-among : (n m : ℕ) (p q : ℕ → Bool) → n ≤ m → word_of m (λ i. bit (word_of n p) i && q i) ≡ word_of n (λ i. p i && q i)
word_of-among n m p q h =
    word_ext m _ _ (word_of-lt m _) (lt_of_lt_of_le (word_of-lt n _) (pow_mono h))
    (λ i l. bit-word_of-lt m _ i l ∙ ap (λ (b : Bool). b && q i) (bit-word_of n p i) ∙ and_assoc (ltb i n) (p i) (q i) ∙ sym (bit-word_of n _ i))

op_word_of : {op : ℕ → ℕ → ℕ} {on : Bool → Bool → Bool} → Bitwise op on → (n : ℕ) (p q : ℕ → Bool) → op (word_of n p) (word_of n q) ≡ word_of n (λ i. on (p i) (q i))
op_word_of {op} {on} f n p q =
    word_of_is n (op (word_of n p) (word_of n q)) (λ i. on (p i) (q i)) (f.small n (word_of n p) (word_of n q) (word_of-lt n p) (word_of-lt n q))
    (λ i l. bit_op f (word_of n p) (word_of n q) i ∙ ap₂ on (bit-word_of-lt n p i l) (bit-word_of-lt n q i l))

pub and-word_of : (n : ℕ) (p q : ℕ → Bool) → bit_and (word_of n p) (word_of n q) ≡ word_of n (λ i. p i && q i)
and-word_of = op_word_of ands

pub or-word_of : (n : ℕ) (p q : ℕ → Bool) → bit_or (word_of n p) (word_of n q) ≡ word_of n (λ i. p i || q i)
or-word_of = op_word_of ors

-- one bit more: how a loop over the places makes a word
word_of-sum : (n : ℕ) (p : ℕ → Bool) → word_of (suc n) p ≡ cond (p n) (2 ^ n) 0 + word_of n p
unfolding word_of
word_of-sum zero p = omega arith
word_of-sum (suc n) p = let e = word_of-sum n (λ i. p (suc i)) in omega (arith, double (p (suc n)))
  where
    double : (b : Bool) → cond b (2 ^ suc n) 0 ≡ cond b (2 ^ n) 0 * 2
    double true = pow-suc 2 n
    double false = refl

word_of-suc : (n : ℕ) (p : ℕ → Bool) → word_of (suc n) p ≡ cond (p n) (bit_or (word_of n p) (2 ^ n)) (word_of n p)
word_of-suc n p = word_of-sum n p ∙ go (p n)
  where
    go : (b : Bool) → cond b (2 ^ n) 0 + word_of n p ≡ cond b (bit_or (word_of n p) (2 ^ n)) (word_of n p)
    go true = sym (simp one-mul at (or_shifted_r 1 n (word_of n p) (word_of-lt n p)))
    go false = zero-add (word_of n p)

-- a place more: where the test holds of it, and where it does not
module _ (p : ℕ → Bool) (n out next : ℕ) (d : out ≡ word_of n p) where
  one_more : word_of (n + 1) p ≡ cond (p n) (bit_or out (2 ^ n)) out
  one_more = rw (add-one n, d) (word_of-suc n p)

  pub word-in : So (p n) → (joined : ℕ) → joined ≡ bit_or out (2 ^ n) → next ≡ joined → next ≡ word_of (n + 1) p
  word-in e joined u v = v ∙ u ∙ sym (rw e at one_more)

  pub word_out : p n ≡ false → next ≡ out → next ≡ word_of (n + 1) p
  word_out e v = v ∙ sym (rw e at one_more)

-- ---- the n lowest cells
pub full_word_of : (n : ℕ) → 2 ^ n - 1 ≡ word_of n (λ i. true)
unfolding word_of
full_word_of zero = refl
full_word_of (suc n) = let e = pow-suc 2 n in let l = pow_pos n in omega (arith, full_word_of n)

-- ---- no cell, and no common cell
pub zero_iff : (k w : ℕ) → w < 2 ^ k → (w ≡ 0) ↔ ((i : ℕ) → i < k → bit w i ≡ false)
zero_iff k w h =
    ((λ e i l. ap (λ (x : ℕ). bit x i) e ∙ bit-zero i), (λ f. word_ext k w 0 h (pow_pos k) (λ i l. f i l ∙ sym (bit-zero i))))

pub meet_zero_iff : (k a b : ℕ) → a < 2 ^ k → (bit_and a b ≡ 0) ↔ ((i : ℕ) → i < k → bit a i && bit b i ≡ false)
meet_zero_iff k a b h =
    let z = zero_iff k (bit_and a b) (lt_of_le_of_lt (and_le_l a b) h) in
    ((λ e i l. sym (bit-and a b i) ∙ z.0 e i l), (λ f. z.1 (λ i l. bit-and a b i ∙ f i l)))

-- ---- the count
pub tally-le : (n : ℕ) (p : ℕ → Bool) → tally n p ≤ n
unfolding tally
tally-le zero p = omega arith
tally-le (suc n) p = omega (arith, tally-le n (λ i. p (suc i)), digit_lt (p 0))

pub tally-word_of : (n : ℕ) (p : ℕ → Bool) → tally n (bit (word_of n p)) ≡ tally n p
tally-word_of n p = tally_ext n (bit (word_of n p)) p (bit-word_of-lt n p)

-- the machine's count of ones
pub ones_tally : (k w : ℕ) → w < 2 ^ k → ones w ≡ tally k (bit w)
unfolding tally ones
ones_tally zero w h = ap ones (lt-one h)
ones_tally (suc k) w h =
    ones_step w
    ∙ ap₂ (λ (x y : ℕ). x + y) (low_digit w)
    (ones_tally k (w / 2) (half_lt w k h) ∙ tally_ext k (bit (w / 2)) (λ i. bit w (suc i)) (λ i l. sym (bit_at_suc w i)))

-- ---- the lowest cell
pub first_there : (n : ℕ) (p : ℕ → Bool) → first n p < n → p (first n p) ≡ true
unfolding first
first_there zero p h = absurd (omega arith)
first_there (suc n) p h = go (first n (λ i. p (suc i))) (first_there n (λ i. p (suc i))) (p 0) refl h
  where
    go : (m : ℕ) → (m < n → p (suc m) ≡ true) → (b : Bool) → p 0 ≡ b → cond b 0 (suc m) < suc n → p (cond b 0 (suc m)) ≡ true
    go m later true e h = e
    go m later false e h = later (omega arith)

pub first_least : (n : ℕ) (p : ℕ → Bool) (j : ℕ) → j < first n p → p j ≡ false
unfolding first
first_least zero p j h = absurd (omega arith)
first_least (suc n) p j h = go (first n (λ i. p (suc i))) (first_least n (λ i. p (suc i))) (p 0) refl j h
  where
    go : (m : ℕ) → ((j : ℕ) → j < m → p (suc j) ≡ false) → (b : Bool) → p 0 ≡ b → (j : ℕ) → j < cond b 0 (suc m) → p j ≡ false
    go m later true e j h = absurd (omega arith)
    go m later false e zero h = e
    go m later false e (suc j) h = later j (omega arith)

pub first-le : (n : ℕ) (p : ℕ → Bool) → first n p ≤ n
unfolding first
first-le zero p = omega arith
first-le (suc n) p = go (p 0) (first-le n (λ i. p (suc i)))
  where
    go : (b : Bool) → first n (λ i. p (suc i)) ≤ n → cond b 0 (suc (first n (λ i. p (suc i)))) ≤ suc n
    go true h = omega arith
    go false h = omega arith

-- looked for from 0 on: it is not before k
module _ (n : ℕ) (p : ℕ → Bool) (k : ℕ) (i : k ≤ first n p) where
  pub first_stop : p k ≡ true → k ≡ first n p
  first_stop h = ⊎_elim (λ e. e) (λ l. absurd (false≢true (sym (first_least n p k l) ∙ h))) (eq-or-lt_of_le i)

  pub first-end : n ≤ k → k ≡ first n p
  first-end h = omega (arith, first-le n p)

  pub first_next : k < n → p k ≡ false → k + 1 ≤ first n p
  first_next h f =
      ⊎_elim (λ e. absurd (false≢true (sym f ∙ rw (← e) at (first_there n p (rw (← e) h))))) (λ l. omega arith) (eq-or-lt_of_le i)

-- a word that is not 0 has a lowest cell
pub first-lt : (k w : ℕ) → 0 < w → w < 2 ^ k → first k (bit w) < k
first-lt k w p h = go (dec_lt (first k (bit w)) k)
  where
    go : Dec (first k (bit w) < k) → first k (bit w) < k
    go (yes l) = l
    go (no f) = let z : w ≡ 0 = (zero_iff k w h).1 (λ i l. first_least k (bit w) i (omega arith)) in absurd (omega arith)

under_cond : (b : Bool) (t : ℕ) → under (digit b) t ≡ cond b 0 (suc t)
under_cond true t = refl
under_cond false t = refl

-- the machine's count of zeros below the lowest one
pub trailing_first : (k w : ℕ) → count_trailing_zeros k w ≡ first k (bit w)
unfolding count_trailing_zeros first
trailing_first zero w = refl
trailing_first (suc k) w =
    ap₂ under (low_digit w) (trailing_first k (w / 2) ∙ first_ext k (bit (w / 2)) (λ i. bit w (suc i)) (λ i l. sym (bit_at_suc w i)))
    ∙ under_cond (bit w 0) (first k (λ i. bit w (suc i)))

-- ---- a cell taken away
and_cell : (k w i : ℕ) → w < 2 ^ k → i < k → bit w i ≡ true → bit_and w (2 ^ i) ≡ 2 ^ i
and_cell k w i h l t =
    word_ext k (bit_and w (2 ^ i)) (2 ^ i) (and_lt k w (2 ^ i) h (pow-lt l)) (pow-lt l)
    (λ j m. bit-and w (2 ^ i) j ∙ ap (λ (b : Bool). bit w j && b) (bit-pow i j) ∙ only j (eqb i j) refl ∙ sym (bit-pow i j))
  where
    only : (j : ℕ) (b : Bool) → eqb i j ≡ b → bit w j && eqb i j ≡ eqb i j
    only j true e = rw e (rw (← eqb-true i j e) (rw t))
    only j false e = rw e (and-false (bit w j))

pub without_less : (k w i : ℕ) → w < 2 ^ k → i < k → bit w i ≡ true → bit_xor w (2 ^ i) < w
without_less k w i h l t = omega (arith, xor_add_and w (2 ^ i), and_cell k w i h l t, pow_pos i)

-- a set that has a cell is not 0
pub cell_pos : (w i : ℕ) → bit w i ≡ true → 0 < w
cell_pos w i t = pos_of_ne-zero (λ e. false≢true (sym (bit-zero i) ∙ rw e at t))

-- the word less one: its lowest cell is off, those above are as they were
and_same : (b : Bool) → b && b ≡ b && true
and_same true = refl
and_same false = refl

lowest_cut : (k w : ℕ) → 0 < w → w < 2 ^ k → (j : ℕ) → bit w j && bit (w - 1) j ≡ bit w j && not (eqb (first k (bit w)) j)
unfolding first
lowest_cut zero w p h j = absurd (omega arith)
lowest_cut (suc k) w p h j = by (bit w 0) refl (λ q. lowest_cut k (w / 2) q (half_lt w k h)) j
  where
    by : (b : Bool) → bit w 0 ≡ b → (0 < w / 2 → (j : ℕ) → bit (w / 2) j && bit (w / 2 - 1) j ≡ bit (w / 2) j && not (eqb (first k (bit (w / 2))) j)) → (j : ℕ)
        → bit w j && bit (w - 1) j ≡ bit w j && not (eqb (cond b 0 (suc (first k (λ i. bit w (suc i))))) j)
    by true e f zero =
        let d : w % 2 ≡ 1 = low_digit w ∙ ap digit e in
        let z : (w - 1) % 2 ≡ 0 = omega arith in
        rw (e, bit_at_zero (w - 1), z)
    by true e f (suc j) =
        let d : w % 2 ≡ 1 = low_digit w ∙ ap digit e in
        let z : (w - 1) / 2 ≡ w / 2 = omega arith in
        rw (bit_at_suc w j, bit_at_suc (w - 1) j, z, eqb-zero-suc j) (and_same (bit (w / 2) j))
    by false e f zero = rw e
    by false e f (suc j) =
        let d : w % 2 ≡ 0 = low_digit w ∙ ap digit e in
        let z : (w - 1) / 2 ≡ w / 2 - 1 = omega arith in
        rw (bit_at_suc w j, bit_at_suc (w - 1) j, z, eqb-suc-suc, first_ext k (λ i. bit w (suc i)) (bit (w / 2)) (λ i l. bit_at_suc w i))
        (f (omega arith) j)

pub lowest_off : (k w i : ℕ) → w < 2 ^ k → i ≡ first k (bit w) → i < k → bit w i ≡ true → bit_and w (w - 1) ≡ bit_xor w (2 ^ i)
lowest_off k w i h d l t =
    word_ext k _ _ (and_lt k w (w - 1) h (omega arith)) (xor_lt k w (2 ^ i) h (pow-lt l))
    (λ j m. bit-and w (w - 1) j ∙ rw (← d) at (lowest_cut k w (cell_pos w i t) h j) ∙ sym (bit_without w i j t))

-- ---- sets inside of others
-- the meet with a set that holds it is the set itself
pub meet_inside : (k a b : ℕ) → a < 2 ^ k → Inside a b → bit_and a b ≡ a
meet_inside k a b h f =
    word_ext k (bit_and a b) a (lt_of_le_of_lt (and_le_l a b) h) h (λ i l. bit-and a b i ∙ held (bit a i) (bit b i) (f.each i))
  where
    held : (x y : Bool) → (x ≡ true → y ≡ true) → x && y ≡ x
    held true y f = f refl
    held false y f = refl

-- a meet is inside of both its sets
pub inside_meet : (a b : ℕ) → Inside (bit_and a b) a × Inside (bit_and a b) b
inside_meet a b = (record { each = λ i t. (cells i t).0 }, record { each = λ i t. (cells i t).1 })
  where
    both : (x y : Bool) → x && y ≡ true → (x ≡ true) × (y ≡ true)
    both true y e = (refl, e)
    both false y e = absurd (false≢true e)

    cells : (i : ℕ) → bit (bit_and a b) i ≡ true → (bit a i ≡ true) × (bit b i ≡ true)
    cells i t = both (bit a i) (bit b i) (sym (bit-and a b i) ∙ t)

pub inside_iff : (k a b : ℕ) → a < 2 ^ k → (eqb (bit_and a b) a ≡ true) ↔ Inside a b
inside_iff k a b h = ((λ e. rw (eqb-true (bit_and a b) a e) at (inside_meet a b).1), (λ f. eq-eqb (bit_and a b) a (meet_inside k a b h f)))

-- ---- the cells of a set taken away
pub bit_minus : (a b i : ℕ) → bit (bit_xor a (bit_and a b)) i ≡ bit a i && not (bit b i)
unfolding xor
bit_minus a b i =
    bit-xor a (bit_and a b) i ∙ ap (xor (bit a i)) (bit-and a b i) ∙ each (λ x y. xor x (x && y) ≡ x && not y) refl refl refl refl (bit a i) (bit b i)

-- what is taken away and what is left are the whole
pub minus_sum : (k a b : ℕ) → a < 2 ^ k → bit_xor a (bit_and a b) + bit_and a b ≡ a
minus_sum k a b h =
    let e : bit_and (bit_and a b) a ≡ bit_and a b = meet_inside k (bit_and a b) a (lt_of_le_of_lt (and_le_l a b) h) (inside_meet a b).0 in
    omega (arith, xor_add_and a (bit_and a b), and_comm a (bit_and a b))

pub minus_less : (k a b i : ℕ) → a < 2 ^ k → bit a i ≡ true → bit b i ≡ true → bit_xor a (bit_and a b) < a
minus_less k a b i h s t = omega (arith, minus_sum k a b h, cell_pos (bit_and a b) i (bit-and a b i ∙ rw (s, t)))
