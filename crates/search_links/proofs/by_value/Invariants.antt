use Prim.Native.Nat.{◌^◌, ◌<◌}
use Rattle.search_links.specs.Sets.{row_at}
use Rattle.search_links.specs.Sides.{half}
use Rattle.search_links.proofs.Laws.{Joins, joined}
use Rattle.search_links.proofs.by_value.Given as goal

abbrev pub invariant-loop-left : goal.invariant-loop-left
invariant-loop-left l = Joins l.out (joined (row_at l.ends (half l.t)) l.left) (joined (row_at l.ends (half l.t)) l.w) × (l.out < 2 ^ 64) × (l.left < 2 ^ 64)

abbrev pub decreases-loop-left : goal.decreases-loop-left
decreases-loop-left l = l.left
