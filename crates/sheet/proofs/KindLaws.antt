-- Laws of the kinds of an entry and their numbers.
use Rattle.std.specs.Prelude.{true, false, not, ◌≡◌, refl, ℕ, zero, suc, ◌≤◌, ◌<◌}
use Rattle.std.proofs.Common.{sym, ap, ◌∙◌, arith}
use denote.Enum.Bare.{sameb}
use Rattle.sheet.specs.Entry.{kind_number}
use Rattle.sheet.specs.Sheet.{most_kind}
use Rattle.sheet.specs.declared.kinds.Kind.{Kind}
use Rattle.sheet.specs.declared.kinds.Kind.TheVariants as says
use Rattle.sheet.specs.contracts.kinds.Kind.{the_type}

pub kind_number-most : (k : Kind) → kind_number k ≤ most_kind
kind_number-most says.True = omega arith
kind_number-most says.Not = omega arith
kind_number-most says.And = omega arith
kind_number-most says.Or = omega arith
kind_number-most says.Way = omega arith
kind_number-most says.Same = omega arith
kind_number-most says.Differ = omega arith

-- the kind of a number
of_number : ℕ → Kind
of_number zero = says.True
of_number (suc zero) = says.Not
of_number (suc (suc zero)) = says.And
of_number (suc (suc (suc zero))) = says.Or
of_number (suc (suc (suc (suc zero)))) = says.Way
of_number (suc (suc (suc (suc (suc zero))))) = says.Same
of_number (suc (suc (suc (suc (suc (suc k)))))) = says.Differ

of_number-back : (k : Kind) → of_number (kind_number k) ≡ k
unfolding of_number
of_number-back says.True = refl
of_number-back says.Not = refl
of_number-back says.And = refl
of_number-back says.Or = refl
of_number-back says.Way = refl
of_number-back says.Same = refl
of_number-back says.Differ = refl

-- kinds of one number are one kind
pub kind_alike : (k j : Kind) → kind_number k ≡ kind_number j → k ≡ j
kind_alike k j e = sym (of_number-back k) ∙ ap of_number e ∙ of_number-back j

pub kind_unlike : (k j : Kind) → (k ≡ j → ⊥) → kind_number k ≡ kind_number j → ⊥
kind_unlike k j f e = f (kind_alike k j e)

-- what a test of a kind says
pub kind_other : (k : Kind) → true ≡ not (sameb the_type k says.True) → kind_number k ≡ 0 → ⊥
kind_other says.True f e = cc
kind_other says.Not f e = omega arith
kind_other says.And f e = omega arith
kind_other says.Or f e = omega arith
kind_other says.Way f e = omega arith
kind_other says.Same f e = omega arith
kind_other says.Differ f e = omega arith

pub kind_none : (k : Kind) → false ≡ not (sameb the_type k says.True) → kind_number k ≡ 0
kind_none says.True f = refl
kind_none says.Not f = cc
kind_none says.And f = cc
kind_none says.Or f = cc
kind_none says.Way f = cc
kind_none says.Same f = cc
kind_none says.Differ f = cc

-- what a test for a way says
pub kind_way : (k : Kind) → true ≡ sameb the_type k says.Way → kind_number k ≡ 4
kind_way says.True f = cc
kind_way says.Not f = cc
kind_way says.And f = cc
kind_way says.Or f = cc
kind_way says.Way f = refl
kind_way says.Same f = cc
kind_way says.Differ f = cc

pub kind_past : (k : Kind) → 4 ≤ kind_number k → false ≡ sameb the_type k says.Way → 4 < kind_number k
kind_past says.True h f = omega arith
kind_past says.Not h f = omega arith
kind_past says.And h f = omega arith
kind_past says.Or h f = omega arith
kind_past says.Way h f = cc
kind_past says.Same h f = omega arith
kind_past says.Differ h f = omega arith

-- a kind that is neither true nor not
pub kind_two : (k : Kind) → (k ≡ says.True → ⊥) → (k ≡ says.Not → ⊥) → 1 < kind_number k
kind_two says.True f g = absurd (f refl)
kind_two says.Not f g = absurd (g refl)
kind_two says.And f g = omega arith
kind_two says.Or f g = omega arith
kind_two says.Way f g = omega arith
kind_two says.Same f g = omega arith
kind_two says.Differ f g = omega arith
