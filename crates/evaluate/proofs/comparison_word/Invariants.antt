use Prim.Native.Nat.{◌^◌, ◌<◌}
use Rattle.evaluate.proofs.Laws.{Found}
use Rattle.evaluate.proofs.comparison_word.Given as goal

abbrev pub invariant-loop-left : goal.invariant-loop-left
invariant-loop-left l = Found l.every l.rows l.firsts l.seconds l.out l.left × (l.left < 2 ^ 64)

abbrev pub decreases-loop-left : goal.decreases-loop-left
decreases-loop-left l = l.left
