-- `edges::moved` meets its contract.
use Rattle.edges.proofs.Laws.{moved_is}
use Rattle.edges.proofs.moved.Goals as goal

pub returns : goal.returns
returns c = search moved_is
