-- `compare_map::columns_of` meets its contract. The invariant: the rows of the right cells passed are made.
use Rattle.compare_map.proofs.Exits.{columns_start, columns_next, columns_all}
use Rattle.compare_map.proofs.columns_of.Goals as goal

pub loop-j-init : goal.loop-j-init
loop-j-init c = columns_start _ _

pub loop-j-preserved : goal.loop-j-preserved
loop-j-preserved c = search columns_next

pub returns : goal.returns
returns c = search columns_all
