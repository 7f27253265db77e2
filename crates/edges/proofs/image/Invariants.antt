use mathlib.Core.Path.{◌≡◌}
use Prim.Native.Nat.{◌≤◌}
use Rattle.edges.specs.Edges.{image}
use Rattle.edges.specs.Groups.{total}
use Rattle.edges.specs.LinkTables.{backward}
use Rattle.edges.proofs.Laws.{rest}
use Rattle.edges.proofs.image.Given as goal

abbrev pub invariant-loop-k : goal.invariant-loop-k
invariant-loop-k l =
    (image (rest (total l.links.starts) l.links.to l.links.labels l.links.from l.k) l.label l.w l.out ≡ image (backward l.links) l.label l.w 0)
    × (l.k ≤ total l.links.starts)
