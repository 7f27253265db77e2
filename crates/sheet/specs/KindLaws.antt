-- The kinds of an entry in the order of their numbers: which is left where the others are not.
use Rattle.std.specs.Prelude.{◌≡◌, refl, ◌<◌, ◌≤◌}
use native.Mathlib.Omega.{arith}
use Rattle.sheet.specs.Entry.{kind_number}
use Rattle.sheet.specs.declared.kinds.Kind.{Kind}
use Rattle.sheet.specs.declared.kinds.Kind.TheVariants as says

-- of those without steps, the or,
pub last_plain : (k : Kind) → kind_number k < 4 → (k ≡ says.True → ⊥) → (k ≡ says.Not → ⊥) → (k ≡ says.And → ⊥) → 3 ≡ kind_number k
last_plain says.True h f g e = absurd (f refl)
last_plain says.Not h f g e = absurd (g refl)
last_plain says.And h f g e = absurd (e refl)
last_plain says.Or h f g e = refl
last_plain says.Way h f g e = absurd (omega arith)
last_plain says.Same h f g e = absurd (omega arith)
last_plain says.Differ h f g e = absurd (omega arith)

-- and of those with steps the differ
pub last_stepped : (k : Kind) → 4 ≤ kind_number k → (k ≡ says.Way → ⊥) → (k ≡ says.Same → ⊥) → 6 ≡ kind_number k
last_stepped says.True h f g = absurd (omega arith)
last_stepped says.Not h f g = absurd (omega arith)
last_stepped says.And h f g = absurd (omega arith)
last_stepped says.Or h f g = absurd (omega arith)
last_stepped says.Way h f g = absurd (f refl)
last_stepped says.Same h f g = absurd (g refl)
last_stepped says.Differ h f g = refl
