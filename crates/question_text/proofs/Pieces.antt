-- The small pieces of a text, and where the entries start: a law for each exit and each turn of a loop.
use mathlib.Core.List.{List, [], ◌∷◌}
use mathlib.Core.Path.{◌≡◌, refl}
use Prim.Native.Nat.{ℕ, ◌+◌, ◌^◌, ◌≤◌, ◌<◌}
use native.Mathlib.Omega.{arith}
use lib.ListN.{length, get_or}
use Rattle.fields.specs.Laws.{field_lt}
use Rattle.fields.specs.Runs.{PutBytes}
use Rattle.fields.specs.RunLaws.{put_as, put_after, rest_fits}
use Rattle.sheet.specs.Entry.{kind_number}
use Rattle.sheet.specs.Sheet.{count_of, entry_start, sheet_refusal}
use Rattle.sheet.specs.Reading.{Readable}
use Rattle.sheet.specs.declared.kinds.Kind.{Kind}
use Rattle.sheet.specs.declared.kinds.Kind.TheVariants as says
use Rattle.sheet.proofs.PassedLaws.{accepted_head}
use Rattle.sheet.proofs.ReadingLaws.{readable}
use Rattle.text.specs.Text.{ascii, decimal}
use Rattle.question_measure.specs.Text.{sign_text}
use Rattle.question_measure.specs.Holds.{Holds}
use Rattle.question_text.specs.Writing.{Started, label_text, junction_by, sign_by}

pub both_put : (room mid exit : List ℕ) (at a b to next : ℕ) → PutBytes room at (a ∷ []) mid to → PutBytes mid to (b ∷ []) exit next → PutBytes room at (a ∷ b ∷ []) exit next
both_put room mid exit at a b to next p q = put_after p q

module _ (room mid : List ℕ) (at a b to : ℕ) (p : PutBytes room at (a ∷ b ∷ []) mid to) where
  pub third_fits : at + 3 ≤ length room → to + 1 ≤ length mid
  third_fits h = rest_fits (a ∷ b ∷ 0 ∷ []) (a ∷ b ∷ []) (0 ∷ []) refl h p

  pub third_put : (c : ℕ) (exit : List ℕ) (next : ℕ) → PutBytes mid to (c ∷ []) exit next → PutBytes room at (a ∷ b ∷ c ∷ []) exit next
  third_put c exit next q = put_after p q

-- ---- signs
pub junction_or : (kind : Kind) → (kind ≡ says.And → ⊥) → 124 ≡ junction_by (kind_number kind)
junction_or says.True f = refl
junction_or says.Not f = refl
junction_or says.And f = absurd (f refl)
junction_or says.Or f = refl
junction_or says.Way f = refl
junction_or says.Same f = refl
junction_or says.Differ f = refl

module _ (room : List ℕ) (at : ℕ) (kind : Kind) (exit : List ℕ) (next : ℕ) where
  pub same_put : kind ≡ says.Same → PutBytes room at (61 ∷ []) exit next → PutBytes room at (sign_by (kind_number kind)) exit next
  unfolding sign_by sign_text
  same_put e p = rw e p

  pub differ_put : (kind ≡ says.Same → ⊥) → PutBytes room at (33 ∷ 61 ∷ []) exit next → PutBytes room at (sign_by (kind_number kind)) exit next
  unfolding sign_by sign_text
  differ_put f p = put_as (other kind f) p
    where
      other : (kind : Kind) → (kind ≡ says.Same → ⊥) → 33 ∷ 61 ∷ [] ≡ sign_by (kind_number kind)
      other says.True f = refl
      other says.Not f = refl
      other says.And f = refl
      other says.Or f = refl
      other says.Way f = refl
      other says.Same f = absurd (f refl)
      other says.Differ f = refl

-- ---- the start of a step
module _ (room : List ℕ) (at a : ℕ) where
  pub slash_fits : at + length (label_text a) ≤ length room → at + 1 ≤ length room
  slash_fits h = omega arith

  module _ (mid : List ℕ) (to : ℕ) (p : PutBytes room at (47 ∷ []) mid to) where
    pub label_fits : at + length (label_text a) ≤ length room → to + length (decimal a) ≤ length mid
    label_fits h = rest_fits (label_text a) (ascii "/") (decimal a) refl h p

    pub label_put : (exit : List ℕ) (next : ℕ) → PutBytes mid to (decimal a) exit next → PutBytes room at (label_text a) exit next
    label_put exit next q = put_after p q

-- ---- where the entries start

-- an accepted sheet is shorter than its length field can say
pub start_small : (s : List ℕ) (at : ℕ) → ((i : ℕ) → get_or s i 0 < 256) → sheet_refusal s ≡ 0 → Readable s at → at < 2 ^ 32
start_small s at b good r =
    let e = (accepted_head s good).whole in
    let i = r.standing.inside in
    omega (arith, field_lt 4 s 0 (record { each = b }))

module _ (s : List ℕ) (good : sheet_refusal s ≡ 0) (n : ℕ) (few : n ≤ count_of s) where
  pub start_readable : (k at : ℕ) → k < n → at ≡ entry_start s k → Readable s at
  start_readable k at h d = readable s k at good (omega arith) d

  pub starts_end : (k : ℕ) (starts : List ℕ) → length starts ≡ n → n ≤ k → k ≤ n → Holds (entry_start s) k starts → Started s starts (length starts)
  starts_end k starts l h m i =
      record { good = good; entries = omega arith; listed = omega arith; places = rw (let e : length starts ≡ k = omega arith in e) i }
