-- `compare_round::first_row` meets its contract. The invariant: no row passed has 0 in the column.
use Rattle.compare_round.proofs.Twins.{first-row_stop, first-row-end, first-row-next}
use Rattle.compare_round.proofs.first_row.Goals as goal

pub returns-then-map-x-eq0 : goal.returns-then-map-x-eq0
returns-then-map-x-eq0 c = search first-row_stop

pub loop-x-preserved : goal.loop-x-preserved
loop-x-preserved c = search first-row-next

pub returns : goal.returns
returns c = search first-row-end
