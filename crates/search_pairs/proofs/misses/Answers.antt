-- `search_pairs::misses` meets its contract.
use Rattle.search_pairs.proofs.Clashes.{misses_none, misses_some}
use Rattle.search_pairs.proofs.misses.Goals as goal

pub returns-then-meet-ne0 : goal.returns-then-meet-ne0
returns-then-meet-ne0 c = search misses_some

pub returns-else-meet-ne0 : goal.returns-else-meet-ne0
returns-else-meet-ne0 c = rw c.if-meet-ne0.false (search misses_none)
