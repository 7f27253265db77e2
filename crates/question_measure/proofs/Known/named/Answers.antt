-- `question_measure::Known::named` meets its contract.
use Rattle.sheet.proofs.KnownLaws.{number_known}
use Rattle.question_measure.proofs.Known.named.Goals as goal

pub referred-requires : goal.referred-requires
referred-requires c = search number_known
