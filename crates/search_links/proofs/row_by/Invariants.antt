use Prim.Native.Nat.{◌+◌, ◌^◌, ◌<◌}
use Rattle.search_links.specs.Hops.{start_of}
use Rattle.search_links.specs.Sides.{view}
use Rattle.search_links.proofs.Laws.{Joins, onto, Under}
use Rattle.search_links.proofs.row_by.Given as goal

abbrev pub invariant-loop-k : goal.invariant-loop-k
invariant-loop-k l = record {
  row : Joins l.set (onto (view l.a) l.by l.until l.k) (onto (view l.a) l.by l.until (start_of (view l.a) l.x));
  word : l.set < 2 ^ 64;
  passed : Under (view l.a) l.x (l.by + 1) l.k;
}
