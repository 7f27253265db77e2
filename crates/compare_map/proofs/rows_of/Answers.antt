-- `compare_map::rows_of` meets its contract. The invariant: the rows of the cells passed are made.
use Rattle.compare_map.proofs.Exits.{rows_start, rows_next, rows_all}
use Rattle.compare_map.proofs.rows_of.Goals as goal

pub loop-i-init : goal.loop-i-init
loop-i-init c = rows_start _ _

pub loop-i-preserved : goal.loop-i-preserved
loop-i-preserved c = search rows_next

pub returns : goal.returns
returns c = search rows_all
