use mathlib.Core.Path.{◌≡◌}
use Rattle.evaluate.proofs.Laws.{singles_to}
use Rattle.evaluate.proofs.singles.Given as goal

abbrev pub invariant-loop-x : goal.invariant-loop-x
invariant-loop-x l = l.rows ≡ singles_to l.x l.initial.rows
