-- `sheet::label` meets its contract: step i stands i steps on.
use Rattle.sheet.proofs.Laws.{label_inside, label_returned}
use Rattle.sheet.proofs.label.Goals as goal

pub get_label-requires : goal.get_label-requires
get_label-requires c = search label_inside

pub returns : goal.returns
returns c = search label_returned
