use Rattle.search_links.specs.Sides.{view}
use Rattle.search_pairs.proofs.Loops.{LinksTo}
use Rattle.search_pairs.proofs.next_link.Given as goal

abbrev pub invariant-loop-k : goal.invariant-loop-k
invariant-loop-k l = LinksTo (view l.a) (view l.b) l.z l.a.ends l.b.ends l.turned l.q.lefts l.q.rights l.qn l.rest l.x l.w l.more l.k
