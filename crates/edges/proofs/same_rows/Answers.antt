-- `edges::same_rows` meets its contract. The invariant: the rows of the cells passed are made.
use Rattle.edges.proofs.Books.{rows_start, rows_next, rows_all}
use Rattle.edges.proofs.same_rows.Goals as goal

pub loop-x-init : goal.loop-x-init
loop-x-init c = search rows_start

pub loop-x-preserved : goal.loop-x-preserved
loop-x-preserved c = search rows_next

pub returns : goal.returns
returns c = search rows_all
