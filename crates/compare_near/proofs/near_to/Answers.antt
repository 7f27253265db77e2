-- `compare_near::near_to` meets its contract. The invariant: the word has what so many links lead to the set from.
use Rattle.compare_near.proofs.Exits.{near_none, near_more, near_all}
use Rattle.compare_near.proofs.near_to.Goals as goal

pub loop-k-init : goal.loop-k-init
loop-k-init c = near_none _ _ _ _

pub loop-k-preserved : goal.loop-k-preserved
loop-k-preserved c = search near_more

pub returns : goal.returns
returns c = search near_all
