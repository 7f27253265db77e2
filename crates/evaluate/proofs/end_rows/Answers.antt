-- `evaluate::end_rows` meets its contract. The invariant: the rows are those of the steps from number i on.
use Rattle.evaluate.proofs.Laws.{rows_start, rows_next, rows_none, rows_end}
use Rattle.evaluate.proofs.end_rows.Goals as goal

pub loop-i-init : goal.loop-i-init
loop-i-init c = search rows_start

pub returns-then-not-gather : goal.returns-then-not-gather
returns-then-not-gather c = search rows_none

pub loop-i-preserved : goal.loop-i-preserved
loop-i-preserved c = search rows_next

pub returns : goal.returns
returns c = search rows_end
