-- `sheet::check_way` meets its contract: a law for each way out.
use Rattle.sheet.proofs.Laws.{way_short, way_large, way_size, way-tests}
use Rattle.sheet.proofs.check_way.Goals as goal

pub returns-then-size-lt1 : goal.returns-then-size-lt1
returns-then-size-lt1 c = search way_short

pub returns-then-k-gt-MOST_STEPS : goal.returns-then-k-gt-MOST_STEPS
returns-then-k-gt-MOST_STEPS c = search way_large

pub returns-then-size-steps_size : goal.returns-then-size-steps_size
returns-then-size-steps_size c = search way_size

pub returns : goal.returns
returns c = search way-tests
