-- `evaluate::singles` meets its contract. The invariant: the first x rows are written.
use Rattle.evaluate.proofs.Laws.{singles_start, singles_next, singles_end}
use Rattle.evaluate.proofs.singles.Goals as goal

pub loop-x-init : goal.loop-x-init
loop-x-init c = search singles_start

pub loop-x-preserved : goal.loop-x-preserved
loop-x-preserved c = search singles_next

pub returns : goal.returns
returns c = search singles_end
