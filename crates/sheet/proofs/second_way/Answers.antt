-- `sheet::second_way` meets its contract: its steps stand behind the first way's.
use native.Mathlib.Omega.{arith}
use Rattle.sheet.proofs.ReadingLaws.{second_inside}
use Rattle.sheet.proofs.Laws.{second_of_comparison}
use Rattle.sheet.proofs.second_way.Goals as goal

pub bounds-s-at : goal.bounds-s-at
bounds-s-at c = omega (arith, second_inside c.requires)

pub bounds-s-at-2 : goal.bounds-s-at-2
bounds-s-at-2 c = search second_inside

pub returns : goal.returns
returns c = search second_of_comparison
