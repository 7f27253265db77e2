use Rattle.search_links.specs.Sides.{view}
use Rattle.search_cover.specs.Covering.{BeyondCells}
use Rattle.search_cover.proofs.cut_cells.Given as goal

abbrev pub invariant-loop-x : goal.invariant-loop-x
invariant-loop-x l = BeyondCells (view l.a) (view l.b) l.z l.level.lefts l.level.rights l.x l.initial.table.lefts l.initial.table.rights l.table.lefts l.table.rights
