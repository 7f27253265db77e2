-- `sheet::check_number` meets its contract: a law for each way out.
use Rattle.sheet.proofs.Laws.{number_earlier, number_later}
use Rattle.sheet.proofs.check_number.Goals as goal

pub returns-then-i-n : goal.returns-then-i-n
returns-then-i-n c = search number_earlier

pub returns : goal.returns
returns c = search number_later
