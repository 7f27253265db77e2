-- `compare_lists::begin` meets its contract.
use Rattle.compare_lists.proofs.Exits.{started}
use Rattle.compare_lists.proofs.begin.Goals as goal

pub returns : goal.returns
returns c = search started
