-- `sheet::check_plain` meets its contract: the body by its kind.
use Rattle.sheet.proofs.Laws.{body_by_both}
use Rattle.sheet.proofs.check_plain.Goals as goal

pub returns-in_default : goal.returns-in_default
returns-in_default c = search body_by_both
