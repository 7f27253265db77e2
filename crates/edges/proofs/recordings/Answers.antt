-- `edges::recordings` meets its contract. The invariant: the recordings of the cells passed are read.
use Rattle.edges.specs.Edges.{empty_rows}
use Rattle.edges.proofs.Books.{list_start, list-next, list_all}
use Rattle.edges.proofs.recordings.Goals as goal

pub loop-x-init : goal.loop-x-init
unfolding empty_rows
loop-x-init c = list_start _ _

pub loop-x-preserved : goal.loop-x-preserved
loop-x-preserved c = search list-next

pub returns : goal.returns
returns c = search list_all
