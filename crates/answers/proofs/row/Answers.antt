-- `answers::row` meets its contract.
use mathlib.Core.Path.{◌∙◌}
use Rattle.sheet.proofs.Laws.{passed_err}
use Rattle.answers.proofs.RowExits.{row-refused, row_few, row_ends, row_starts, row-counted}
use Rattle.answers.proofs.row.Goals as goal

pub returns-in_err-check_row : goal.returns-in_err-check_row
returns-in_err-check_row c = passed_err _ _ c.from_residual.ensures.1 ∙ search (row-refused, c.in_err-check_row.ensures)

pub overflow_mul-i : goal.overflow_mul-i
overflow_mul-i c = record { fits = search (row_starts, c.in_ok-check_row.ensures) }

pub zeros-word-requires : goal.zeros-word-requires
zeros-word-requires c = (search (row_few, c.in_ok-check_row.ensures), search (row_ends, c.in_ok-check_row.ensures))

pub returns : goal.returns
returns c = search (row-counted, c.in_ok-check_row.ensures)
