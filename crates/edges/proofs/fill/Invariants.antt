use Prim.Native.Nat.{◌≤◌}
use Rattle.edges.proofs.Books.{Filled}
use Rattle.edges.proofs.fill.Given as goal

abbrev pub invariant-loop-k : goal.invariant-loop-k
invariant-loop-k l = Filled l.hidden l.book.bytes.now l.from l.labels l.to l.count l.k × (l.count ≤ l.k)
