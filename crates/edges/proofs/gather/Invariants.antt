use mathlib.Core.Path.{◌≡◌}
use Prim.Native.Nat.{◌≤◌}
use Rattle.edges.specs.Edges.{gather, empty_rows}
use Rattle.edges.specs.Groups.{total}
use Rattle.edges.specs.LinkTables.{forward}
use Rattle.edges.proofs.Laws.{rest, Within}
use Rattle.edges.proofs.gather.Given as goal

abbrev pub invariant-loop-k : goal.invariant-loop-k
invariant-loop-k l =
    (gather (rest (total l.links.starts) l.links.from l.links.labels l.links.to l.k) l.label l.w l.later l.rows ≡ gather (forward l.links) l.label l.w l.later (empty_rows 64))
    × (l.k ≤ total l.links.starts) × Within l.all l.rows
