use Rattle.search_links.specs.Sides.{view}
use Rattle.search_cover.proofs.Levels.{Reached}
use Rattle.search_cover.proofs.by_cells.Given as goal

abbrev pub invariant-loop-k : goal.invariant-loop-k
invariant-loop-k l = Reached (view l.a) (view l.b) l.z l.x l.y l.k l.table.lefts l.table.rights
