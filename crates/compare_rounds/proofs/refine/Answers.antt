-- `compare_rounds::refine` meets its contract. The invariant: the next round can begin.
use Rattle.compare_rounds.proofs.AllRounds.{going_none, going_opens, going_places, going_done, going_more, going_less}
use Rattle.compare_rounds.proofs.refine.Goals as goal

pub loop-p-init : goal.loop-p-init
loop-p-init c = search going_none

pub round-turn-requires : goal.round-turn-requires
round-turn-requires c = going_opens c.loop-p.invariant

pub shape_of-map-then-q-p : goal.shape_of-map-then-q-p
shape_of-map-then-q-p c = going_places (going_more c.loop-p.invariant c.round-turn.ensures)

pub returns-then-q-p : goal.returns-then-q-p
returns-then-q-p c = search going_done

pub loop-p-smaller : goal.loop-p-smaller
loop-p-smaller c = going_less c.loop-p.invariant c.round-turn.ensures c.if-q-p.false

pub loop-p-preserved : goal.loop-p-preserved
loop-p-preserved c = search going_more
