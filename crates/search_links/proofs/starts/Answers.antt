-- `search_links::starts` meets its contract. The invariant: the table has the starts of the nodes passed.
use Rattle.search_links.proofs.Laws.{begun_more, lead_on, lead_small}
use Rattle.search_links.proofs.starts.Goals as goal

pub overflow_cast-table : goal.overflow_cast-table
overflow_cast-table c = search lead_small

pub loop-x-preserved : goal.loop-x-preserved
loop-x-preserved c = record { begun = search begun_more; onward = search lead_on }
