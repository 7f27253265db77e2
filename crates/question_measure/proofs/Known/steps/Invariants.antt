use mathlib.Core.Path.{◌≡◌}
use lib.ListN.{drop}
use Rattle.sheet.specs.Reading.{steps_of}
use Rattle.question_measure.specs.Measures.{steps_measure}
use Rattle.question_measure.proofs.Known.steps.Given as goal

abbrev pub invariant-loop-i : goal.invariant-loop-i
invariant-loop-i l = l.out ≡ steps_measure l.self.chains l.self.lengths (drop l.i (steps_of l.sheet l.way))
