-- `search_pairs::two_tips` meets its contract. The invariants: no classes passed clash.
use Rattle.search_pairs.proofs.Clashes.{met_some, met_none}
use Rattle.search_pairs.proofs.two_tips.Goals as goal

pub returns-after-search : goal.returns-after-search
returns-after-search c = met_none _ _ _ _ _ _ _ _ _ c.search.invariant.rows c.search-test.false _ c.search.invariant.none

pub returns-then-found : goal.returns-then-found
returns-then-found c = met_some _ _ _ _ _ _ _ _ _ _ c.asks-same.ensures c.asks-differ.ensures _ c.unmatched-found.ensures c.if-found.true _ _ c.search-test.true c.loop-j-test.true
