-- `sheet::check_true` meets its contract: a law for each way out.
use Rattle.sheet.proofs.Laws.{true_size, true_good}
use Rattle.sheet.proofs.check_true.Goals as goal

pub returns-then-size-ne0 : goal.returns-then-size-ne0
returns-then-size-ne0 c = λ s n at. search true_size

pub returns : goal.returns
returns c = λ s n at. search true_good
