-- `sheet::first_way` meets its contract: its steps stand behind the step counts.
use Rattle.sheet.proofs.ReadingLaws.{first_inside}
use Rattle.sheet.proofs.Laws.{first_of_way, first_of_comparison}
use Rattle.sheet.proofs.first_way.Goals as goal

pub bounds-s-at : goal.bounds-s-at
bounds-s-at c = search first_inside

pub returns-in-Way : goal.returns-in-Way
returns-in-Way c = search (first_of_way, c.in-Way.ensures)

pub returns-in_default : goal.returns-in_default
returns-in_default c = search first_of_comparison
