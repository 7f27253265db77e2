-- `edges::differ_rows` meets its contract. The invariant: the rows of the cells passed are made.
use Rattle.edges.proofs.Books.{differ_start, differ_next, differ_all}
use Rattle.edges.proofs.differ_rows.Goals as goal

pub loop-x-init : goal.loop-x-init
loop-x-init c = search differ_start

pub loop-x-preserved : goal.loop-x-preserved
loop-x-preserved c = search differ_next

pub returns : goal.returns
returns c = search differ_all
