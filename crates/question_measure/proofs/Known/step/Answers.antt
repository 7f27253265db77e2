-- `question_measure::Known::step` meets its contract.
use Rattle.sheet.proofs.KnownLaws.{test_known}
use Rattle.question_measure.proofs.Known.step.Goals as goal

pub referred-requires : goal.referred-requires
referred-requires c = search test_known
