-- `search_levels::reach` meets its contract. The invariant: the levels stand of whatever they stood.
use Rattle.search_levels.proofs.Deepening.{became_same, became_trans}
use Rattle.search_levels.proofs.reach.Goals as goal

pub loop-at-init : goal.loop-at-init
loop-at-init c = search became_same

pub returns-then-next-known : goal.returns-then-next-known
returns-then-next-known c = became_trans _ _ _ _ _ _ _ _ _ _ _ c.loop-at.invariant _ _ _ c.deepen-next.ensures.0
