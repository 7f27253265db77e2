-- `sheet::check_not` meets its contract: a law for each way out.
use Rattle.sheet.proofs.Laws.{not_size, not_number}
use Rattle.sheet.proofs.check_not.Goals as goal

pub returns-then-size-ne-NUMBER : goal.returns-then-size-ne-NUMBER
returns-then-size-ne-NUMBER c = search not_size

pub returns : goal.returns
returns c = search not_number
