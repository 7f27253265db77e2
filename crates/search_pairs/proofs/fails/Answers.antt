-- `search_pairs::fails` meets its contract.
use Rattle.search_pairs.proofs.Clashes.{fails_not, fails_where}
use Rattle.search_pairs.proofs.fails.Goals as goal

pub returns-then-has : goal.returns-then-has
returns-then-has c = search fails_where

pub returns-else-has : goal.returns-else-has
returns-else-has c = rw c.if-has.false (search fails_not)
