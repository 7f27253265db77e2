use mathlib.Core.Path.{◌≡◌}
use Rattle.edges.specs.BookEdges.{recordings_to}
use Rattle.edges.proofs.recordings.Given as goal

abbrev pub invariant-loop-x : goal.invariant-loop-x
invariant-loop-x l = l.list ≡ recordings_to l.hidden l.book.bytes.now l.x
