-- `listing_lines::put_rows` meets its contract.
use native.Mathlib.Omega.{arith}
use borrow.Author.Rules.{rules}
use Rattle.listing_lines.proofs.Exits.{rows_start, next_fits, next_whole, next_few, rows_next, rows_end}
use Rattle.listing_lines.proofs.put_rows.Goals as goal

pub loop-i-init : goal.loop-i-init
loop-i-init c = search rows_start

pub put_cell-row-requires : goal.put_cell-row-requires
put_cell-row-requires c = (search next_fits, search next_whole)

pub overflow_add-matched : goal.overflow_add-matched
overflow_add-matched c = omega (arith, next_few _ _ _ _ _ _ _ _ _ c.loop-i.invariant (search rules) c.put_cell-row.ensures)

pub loop-i-preserved : goal.loop-i-preserved
loop-i-preserved c = search rows_next

pub returns : goal.returns
returns c = search rows_end
