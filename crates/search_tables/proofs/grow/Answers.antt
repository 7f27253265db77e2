-- `search_tables::grow` meets its contract. The invariant: of each cell of the set, it is still to come, or the table covers its tip.
use Rattle.search_tables.proofs.Exits.{growing_next, growing_full, growing_end}
use Rattle.search_tables.proofs.grow.Goals as goal

pub returns-in-None : goal.returns-in-None
returns-in-None c = search (growing_full, c.in-None.ensures)

pub loop-left-preserved : goal.loop-left-preserved
loop-left-preserved c = search (growing_next, c.in-Some.ensures)

pub returns : goal.returns
returns c = search growing_end
