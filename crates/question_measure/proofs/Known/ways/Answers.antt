-- `question_measure::Known::ways` meets its contract.
use Rattle.sheet.proofs.KnownLaws.{first_known, second_known}
use Rattle.question_measure.proofs.Known.ways.Goals as goal

pub way-first-requires : goal.way-first-requires
way-first-requires c = search first_known

pub way-second-requires : goal.way-second-requires
way-second-requires c = search second_known
