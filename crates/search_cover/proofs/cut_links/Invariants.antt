use Rattle.std.specs.Prelude.{◌≡◌}
use Rattle.search_links.specs.Sides.{view}
use Rattle.search_links.specs.Sets.{image_of}
use Rattle.search_cover.proofs.Levels.{Passed}
use Rattle.search_cover.proofs.cut_links.Given as goal

abbrev pub invariant-loop-k : goal.invariant-loop-k
invariant-loop-k l = (l.image ≡ image_of (view l.b) l.w l.label) × Passed (view l.a) (view l.b) l.z l.x l.w l.initial.table.lefts l.initial.table.rights l.table.lefts l.table.rights l.k
