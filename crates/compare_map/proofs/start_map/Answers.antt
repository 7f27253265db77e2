-- `compare_map::start_map` meets its contract. The invariant: the first k places are made.
use native.Mathlib.Omega.{arith}
use Rattle.compare_map.proofs.Exits.{made_none, made_more, made_all}
use Rattle.compare_map.proofs.start_map.Goals as goal

pub loop-k-init : goal.loop-k-init
loop-k-init c = made_none _ _

pub loop-k-preserved : goal.loop-k-preserved
loop-k-preserved c = made_more _ _ _ c.loop-k.invariant (omega arith) _ c.start_at.ensures

pub returns : goal.returns
returns c = made_all _ _ _ _ c.loop-k.invariant c.loop-k.auto.map (omega arith)
