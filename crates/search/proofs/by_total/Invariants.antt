use Rattle.search_links.specs.Sides.{view}
use Rattle.search_levels.specs.Depths.{Laid, Standing, Settled}
use Rattle.search.proofs.by_total.Given as goal

abbrev pub invariant-loop-s : goal.invariant-loop-s
invariant-loop-s l = Laid l.table.lefts l.table.rights l.levels × Standing (view l.a) (view l.b) l.z l.a.ends l.b.ends l.x l.y l.c l.table.lefts l.table.rights l.levels × Settled (view l.a) (view l.b) l.z l.a.ends l.b.ends l.x l.y l.c l.s
