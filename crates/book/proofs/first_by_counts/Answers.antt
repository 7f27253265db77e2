-- `book::first_by_counts` meets its contract.
use Rattle.std.proofs.Common.{arith}
use Rattle.book.proofs.Laws.{first-end, first_stop, first_next}
use Rattle.book.proofs.first_by_counts.Goals as goal

pub returns-then-cell-bytes : goal.returns-then-cell-bytes
returns-then-cell-bytes c = (search first_stop, omega arith)

pub loop-k-preserved : goal.loop-k-preserved
loop-k-preserved c = search first_next

pub returns : goal.returns
returns c = (search first-end, omega arith)
