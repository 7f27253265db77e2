-- `question_measure::Known::steps` meets its contract.
use Rattle.question_measure.proofs.Exits.{steps_start, steps_next}
use Rattle.question_measure.proofs.Known.steps.Goals as goal

pub loop-i-init : goal.loop-i-init
loop-i-init c = search steps_start

pub loop-i-preserved : goal.loop-i-preserved
loop-i-preserved c = search steps_next
