-- `compare_near::near_changes` meets its contract.
use Rattle.compare_near.proofs.Exits.{near_one, near_bound}
use Rattle.compare_near.proofs.near_changes.Goals as goal

pub returns-then-bound-eq0 : goal.returns-then-bound-eq0
returns-then-bound-eq0 c = search near_one

pub returns : goal.returns
returns c = search near_bound
