-- `compare_map::start_at` meets its contract.
use Rattle.compare_map.proofs.Exits.{start_left, start_right, start_zero}
use Rattle.compare_map.proofs.start_at.Goals as goal

pub returns-then-has : goal.returns-then-has
returns-then-has c = search start_left

pub returns-then-has-2 : goal.returns-then-has-2
returns-then-has-2 c = search start_right

pub returns : goal.returns
returns c = search start_zero
