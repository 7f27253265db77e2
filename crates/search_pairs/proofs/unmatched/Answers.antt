-- `search_pairs::unmatched` meets its contract.
use Rattle.search_pairs.proofs.Clashes.{unmet_same, unmet_differ}
use Rattle.search_pairs.proofs.unmatched.Goals as goal

pub returns-then-misses : goal.returns-then-misses
returns-then-misses c = rw c.if-misses.true (search unmet_same)

pub returns-else-misses : goal.returns-else-misses
returns-else-misses c = search unmet_differ
