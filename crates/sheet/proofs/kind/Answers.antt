-- `sheet::kind` meets its contract: the kind byte is the kind of the entry.
use Rattle.sheet.proofs.Laws.{kind_returned}
use Rattle.sheet.proofs.kind.Goals as goal

pub returns : goal.returns
returns c = search kind_returned
