-- Laws of the field of a label: its width is one byte or two.
use Rattle.std.specs.Prelude.{Bool, true, false, cond, ◌≡◌, List, ℕ, ◌+◌, ◌^◌, ◌≤◌, ◌<◌, eqb}
use Rattle.std.proofs.Common.{arith, eq-eqb, ne_eqb}
use Rattle.fields.specs.Fields.{field, with_field}
use Rattle.fields.specs.Label.{label_width}

pub label_narrow : (v : ℕ) → v ≡ 1 → label_width v ≡ 1
unfolding label_width
label_narrow v e = simp (eq-eqb v 1 e)

pub label_wide : (v : ℕ) → (v ≡ 1 → ⊥) → label_width v ≡ 2
unfolding label_width
label_wide v f = simp (ne_eqb v 1 f)

-- A field of one byte or two.
pub record OneOrTwo (w : ℕ) : Type 0 where
  pub some : 1 ≤ w
  pub most : w ≤ 2
  pub fits : (a : ℕ) → a < 256 ^ w → a < 65536

pub label-width : (v : ℕ) → OneOrTwo (label_width v)
unfolding label_width
label-width v = go (eqb v 1)
  where
    go : (b : Bool) → OneOrTwo (cond b 1 2)
    go true = record { some = omega arith; most = omega arith; fits = λ a h. omega arith }
    go false = record { some = omega arith; most = omega arith; fits = λ a h. omega arith }

-- what holds of a field of one byte, or of two, holds of a label's
module _ (v : ℕ) where
  pub narrow_room : (at n : ℕ) → v ≡ 1 → at + label_width v ≤ n → at + 1 ≤ n
  narrow_room at n e h = omega (arith, label_narrow v e)

  pub wide_room : (at n : ℕ) → (v ≡ 1 → ⊥) → at + label_width v ≤ n → at + 2 ≤ n
  wide_room at n f h = omega (arith, label_wide v f)

  pub narrow_small : (a : ℕ) → v ≡ 1 → a < 256 ^ label_width v → a < 256
  narrow_small a e h = rw (label_narrow v e) at h

  pub narrow-field : (s : List ℕ) (at r : ℕ) → v ≡ 1 → r ≡ field 1 s at → r ≡ field (label_width v) s at
  narrow-field s at r e d = rw (label_narrow v e) d

  pub wide-field : (s : List ℕ) (at r : ℕ) → (v ≡ 1 → ⊥) → r ≡ field 2 s at → r ≡ field (label_width v) s at
  wide-field s at r f d = rw (label_wide v f) d

  pub narrow-written : (s t : List ℕ) (at a : ℕ) → v ≡ 1 → t ≡ with_field 1 s at a → t ≡ with_field (label_width v) s at a
  narrow-written s t at a e d = rw (label_narrow v e) d

  pub wide-written : (s t : List ℕ) (at a : ℕ) → (v ≡ 1 → ⊥) → t ≡ with_field 2 s at a → t ≡ with_field (label_width v) s at a
  wide-written s t at a f d = rw (label_wide v f) d
