-- One turn of the loops that read and write a field: a byte more.
use Rattle.std.specs.Prelude.{◌≡◌, refl, List, ℕ, zero, suc, ◌+◌, ◌-◌, ◌*◌, ◌/◌, ◌%◌, ◌^◌, ◌≤◌, ◌<◌, get_or, set}
use Rattle.std.proofs.Common.{sym, ap, ◌∙◌, arith, pow-suc, pow-add, add-one}
use Rattle.std.proofs.Math.Nat.{div-div-eq-div-mul}
use Rattle.fields.specs.Fields.{field, bytes_of, with_field}
use Rattle.fields.specs.Laws.{byte, field_join, with_field_join}

pub field_none : (s : List ℕ) (at : ℕ) → 0 ≡ field 0 s at
unfolding field
field_none s at = refl

-- the field so far, and the next byte
pub field_next : (s : List ℕ) (at i v : ℕ) → v ≡ field i s at → v * 256 + get_or s (at + i) 0 ≡ field (i + 1) s at
field_next s at i v d = field_join i 1 s at v (get_or s (at + i) 0) d (byte s (at + i))

-- it stays below the power,
pub below_next : (i v b : ℕ) → v < 256 ^ i → b < 256 → v * 256 + b < 256 ^ (i + 1)
below_next i v b h l = rw (add-one i) (omega (arith, pow-suc 256 i))

-- and that of up to four bytes is at most 2 ^ 32
pub power_most : (i : ℕ) → i ≤ 4 → 256 ^ i ≤ 4294967296
power_most zero h = omega arith
power_most (suc zero) h = omega arith
power_most (suc (suc zero)) h = omega arith
power_most (suc (suc (suc zero))) h = omega arith
power_most (suc (suc (suc (suc zero)))) h = omega arith
power_most (suc (suc (suc (suc (suc i))))) h = absurd (omega arith)

-- ---- a byte written
pub written_none : (s : List ℕ) (at v : ℕ) → s ≡ with_field 0 s at v
unfolding bytes_of with_field
written_none s at v = refl

-- the byte written is a field of one byte
pub byte_written : (s : List ℕ) (at v : ℕ) → v < 256 → set s at v ≡ with_field 1 s at v
unfolding bytes_of with_field
byte_written s at v h = ap (set s at) (omega arith)

-- a shift by whole bytes
shift : (w : ℕ) → 2 ^ (8 * w) ≡ 256 ^ w
shift zero = refl
shift (suc w) =
    let e : 8 * suc w ≡ 8 * w + 8 = omega arith in
    rw (e, pow-add 2 (8 * w) 8, shift w) (omega (arith, pow-suc 256 w))

-- the field of the first i bytes of n, and the next byte
pub written_next : (s t : List ℕ) (at v n i : ℕ) → i < n → t ≡ with_field i s at (v / 256 ^ (n - i))
    → set t (at + i) (v / 2 ^ (8 * (n - 1 - i)) % 256) ≡ with_field (i + 1) s at (v / 256 ^ (n - (i + 1)))
written_next s t at v n i h d =
    let w = n - 1 - i in
    let y = v / 2 ^ (8 * w) in
    let e : n - (i + 1) ≡ w = omega arith in
    let f : n - i ≡ suc w = omega arith in
    let above : v / 256 ^ (n - i) ≡ y / 256 = rw (f, pow-suc 256 w, shift w) (sym (div-div-eq-div-mul v (256 ^ w) 256)) in
    let low : y % 256 < 256 = omega arith in
    let whole : y / 256 * 256 ^ 1 + y % 256 ≡ v / 256 ^ (n - (i + 1)) = rw (e, ← shift w) (omega arith) in
    with_field_join i 1 s at (y / 256) (y % 256) (omega arith) (d ∙ ap (with_field i s at) above) (byte_written t (at + i) (y % 256) low)
    ∙ ap (with_field (i + 1) s at) whole
