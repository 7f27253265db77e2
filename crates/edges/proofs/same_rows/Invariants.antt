use mathlib.Core.Path.{◌≡◌}
use Rattle.theory.specs.Graph.{same}
use Rattle.edges.specs.BookEdges.{passing_rows}
use Rattle.edges.proofs.same_rows.Given as goal

abbrev pub invariant-loop-x : goal.invariant-loop-x
invariant-loop-x l = l.rows ≡ passing_rows l.hidden l.book.bytes.now same l.x
