use Rattle.search_links.specs.Sets.{seen_as}
use Rattle.search_links.proofs.seen_as.Goals as goal

pub returns-then-wide : goal.returns-then-wide
unfolding seen_as
returns-then-wide c = rw c.if-wide.true c.passing.ensures

pub returns : goal.returns
unfolding seen_as
returns c = rw c.if-wide.false
