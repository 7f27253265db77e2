-- `search::one_link` meets its contract. The invariant: each link passed has a counterpart.
use Rattle.search.proofs.Links.{links_next, links_found, links_end}
use Rattle.search.proofs.one_link.Goals as goal

pub returns-then-step-eq0 : goal.returns-then-step-eq0
returns-then-step-eq0 c =
    links_found _ _ _ _ _ _ c.loop-k.invariant _ _ _ _ c.only-partner.ensures c.label-label.ensures c.target-target.ensures c.step.ensures c.loop-k.auto.k
    c.loop-k-test.true c.if-step-eq0.true

pub loop-k-preserved : goal.loop-k-preserved
loop-k-preserved c =
    links_next _ _ _ _ _ _ c.loop-k.invariant _ _ _ _ c.only-partner.ensures c.label-label.ensures c.target-target.ensures c.step.ensures c.if-step-eq0.false

pub returns : goal.returns
returns c = links_end _ _ _ _ _ _ c.loop-k.invariant c.loop-k-test.false
