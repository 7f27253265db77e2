use Prim.Native.Nat.{◌-◌}
use Rattle.compare_pair.specs.Settling.{chart_of}
use Rattle.compare_round.specs.Idle.{idle_in}
use Rattle.compare_rounds.specs.Turns.{at_rest}
use Rattle.compare_rounds.proofs.AllRounds.{Going}
use Rattle.compare_rounds.proofs.refine.Given as goal

abbrev pub invariant-loop-p : goal.invariant-loop-p
invariant-loop-p l = Going (chart_of l.a) (chart_of l.b) l.sizes (at_rest l.initial.room l.initial.p l.initial.map l.initial.new) (idle_in l.live) (at_rest l.room l.p l.map l.new)

abbrev pub decreases-loop-p : goal.decreases-loop-p
decreases-loop-p l = 16386 - l.p.next
