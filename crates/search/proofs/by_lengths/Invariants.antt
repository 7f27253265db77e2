use Rattle.search_links.specs.Sides.{view}
use Rattle.search.proofs.Ranges.{LengthsTo}
use Rattle.search.proofs.by_lengths.Given as goal

abbrev pub invariant-loop-i : goal.invariant-loop-i
invariant-loop-i l = LengthsTo (view l.a) (view l.b) l.z l.a.ends l.b.ends l.x l.y l.c l.s l.i
