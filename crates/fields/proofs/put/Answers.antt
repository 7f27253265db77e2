-- `fields::put` meets its contract.
use Rattle.fields.proofs.Turns.{written_none, written_next}
use Rattle.fields.proofs.put.Goals as goal

pub loop-i-init : goal.loop-i-init
loop-i-init g c = search written_none

pub loop-i-preserved : goal.loop-i-preserved
loop-i-preserved g c = written_next _ _ _ _ _ _ c.loop-i-test.true c.loop-i.invariant
