use Rattle.search_links.specs.Sides.{view}
use Rattle.search.proofs.Links.{LinksTo}
use Rattle.search.proofs.one_link.Given as goal

abbrev pub invariant-loop-k : goal.invariant-loop-k
invariant-loop-k l = LinksTo (view l.a) (view l.b) l.z l.x l.y l.k
