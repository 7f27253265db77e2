use Rattle.book.proofs.Laws.{Lower}
use Rattle.book.proofs.first_by_counts.Given as goal

abbrev pub invariant-loop-k : goal.invariant-loop-k
invariant-loop-k l = Lower l.bytes l.cells l.cell l.k
