-- `question_measure::Known::way` meets its contract.
use Rattle.question_measure.proofs.Exits.{way_none, way_some}
use Rattle.question_measure.proofs.Known.way.Goals as goal

pub returns-then-way-eq0 : goal.returns-then-way-eq0
returns-then-way-eq0 c = search way_none

pub returns : goal.returns
returns c = search way_some
