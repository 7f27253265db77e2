-- `sheet::number` meets its contract: numbers stand one after another behind the kind byte.
use native.Mathlib.Omega.{arith}
use Rattle.sheet.proofs.ReadingLaws.{number_inside}
use Rattle.sheet.proofs.Laws.{number_returned}
use Rattle.sheet.proofs.number.Goals as goal

pub overflow_mul-i : goal.overflow_mul-i
overflow_mul-i c = omega (arith, number_inside c.requires)

pub overflow_add-at-2 : goal.overflow_add-at-2
overflow_add-at-2 c = omega (arith, number_inside c.requires)

pub get-requires : goal.get-requires
get-requires c = (omega arith, search number_inside)

pub returns : goal.returns
returns c = search number_returned
