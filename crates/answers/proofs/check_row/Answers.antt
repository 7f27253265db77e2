-- `answers::check_row` meets its contract.
use Rattle.answers.proofs.RowExits.{row_none, row_many, row_outside, row_inside}
use Rattle.answers.proofs.check_row.Goals as goal

pub returns-then-m-eq0 : goal.returns-then-m-eq0
returns-then-m-eq0 c = search row_none

pub returns-then-m-gt-CELLS : goal.returns-then-m-gt-CELLS
returns-then-m-gt-CELLS c = search row_many

pub returns-then-map-m : goal.returns-then-map-m
returns-then-map-m c = search row_outside

pub returns : goal.returns
returns c = search row_inside
