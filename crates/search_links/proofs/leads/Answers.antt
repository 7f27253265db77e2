-- `search_links::leads` meets its contract. The invariant: no link passed leads to a node of the set.
use Rattle.search_links.proofs.Laws.{leads_found, leads_skip, leads_none}
use Rattle.search_links.proofs.leads.Goals as goal

pub returns-then-has : goal.returns-then-has
returns-then-has c = leads_found _ _ _ _ _ c.loop-k.invariant c.loop-k-test.true _ (rw c.target.ensures at c.has.ensures) c.if-has.true

pub loop-k-preserved : goal.loop-k-preserved
loop-k-preserved c = leads_skip _ _ _ _ _ c.loop-k.invariant c.loop-k-test.true _ (rw c.target.ensures at c.has.ensures) c.if-has.false

pub returns : goal.returns
returns c = leads_none _ _ _ _ _ c.loop-k.invariant c.loop-k-test.false
