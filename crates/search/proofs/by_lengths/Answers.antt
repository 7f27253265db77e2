-- `search::by_lengths` meets its contract. The invariant: the lengths passed are clear.
use mathlib.Core.Path.{refl}
use native.Mathlib.Omega.{arith}
use Rattle.search.proofs.Ranges.{couple_some, couple_none, lengths-next, lengths-end, lengths_found}
use Rattle.search.proofs.by_lengths.Goals as goal

pub returns-then-is_some : goal.returns-then-is_some
returns-then-is_some c =
    lengths_found _ _ _ _ _ _ _ _ _ _ c.loop-i.invariant (omega arith) (omega arith) _ c.pair_at-found.ensures
    (couple_some _ _ c.is_some.ensures c.if-is_some.true)

pub loop-i-preserved : goal.loop-i-preserved
loop-i-preserved c =
    lengths-next _ _ _ _ _ _ _ _ _ _ c.loop-i.invariant _ c.pair_at-found.ensures (couple_none _ _ c.is_some.ensures c.if-is_some.false)

pub returns-else-is_some : goal.returns-else-is_some
returns-else-is_some c =
    lengths-end _ _ _ _ _ _ _ _ _ _
    (lengths-next _ _ _ _ _ _ _ _ _ _ c.loop-i.invariant _ c.pair_at-found.ensures (couple_none _ _ c.is_some.ensures c.if-is_some.false)) (omega arith) _ refl

pub returns : goal.returns
returns c = lengths-end _ _ _ _ _ _ _ _ _ _ c.loop-i.invariant (omega arith) _ refl
