-- `compare_round::stays` meets its contract.
use Rattle.compare_round.proofs.Twins.{stays_left, stays_right, stays_else}
use Rattle.compare_round.proofs.stays.Goals as goal

pub returns-then-not-has : goal.returns-then-not-has
returns-then-not-has c = search stays_left

pub returns-then-not-has-2 : goal.returns-then-not-has-2
returns-then-not-has-2 c = search stays_right

pub returns : goal.returns
returns c = search stays_else
