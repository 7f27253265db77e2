use Prim.Native.Nat.{◌≤◌}
use Rattle.search_links.specs.Hops.{lead}
use Rattle.search_links.proofs.Laws.{Begun}
use Rattle.search_links.proofs.starts.Given as goal

abbrev pub invariant-loop-x : goal.invariant-loop-x
invariant-loop-x l = record { begun : Begun l.count l.from l.table l.x; onward : l.k ≤ lead l.count l.from l.x }
