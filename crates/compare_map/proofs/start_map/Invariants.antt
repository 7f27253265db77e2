use Rattle.book.specs.BookGraph.{showing}
use Rattle.compare_laws.specs.Places.{start_at}
use Rattle.compare_map.proofs.Exits.{Made}
use Rattle.compare_map.proofs.start_map.Given as goal

abbrev pub invariant-loop-k : goal.invariant-loop-k
invariant-loop-k l = Made (start_at l.m (showing l.hidden.left) (showing l.hidden.right)) l.k l.map
