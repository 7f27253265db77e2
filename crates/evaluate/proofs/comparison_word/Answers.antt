-- `evaluate::comparison_word` meets its contract. The invariant: the nodes found and those that pass of what is left are all.
use native.Mathlib.Omega.{arith}
use borrow.Author.Rules.{rules}
use Rattle.evaluate.proofs.Laws.{found_start, found_in, found_out, found_all}
use Rattle.evaluate.proofs.comparison_word.Goals as goal
use Rattle.evaluate.proofs.comparison_word.Goals.{then-any_passes, else-any_passes}

pub loop-left-init : goal.loop-left-init
loop-left-init c = (search found_start, search rules)

pub loop-left-preserved : goal.loop-left-preserved
loop-left-preserved c = elim c.if-any_passes.branch [ then-any_passes w ↦ (search found_in, omega arith) | else-any_passes w ↦ (search found_out, omega arith) ]

pub returns : goal.returns
returns c = search found_all
