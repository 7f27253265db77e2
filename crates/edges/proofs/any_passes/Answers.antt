-- `edges::any_passes` meets its contract. The invariant: what is left of the first set has the answer.
use mathlib.Core.Path.{refl}
use native.Mathlib.Omega.{arith}
use borrow.Author.Rules.{rules}
use Rattle.edges.proofs.Laws.{passes-end, passes_stop, passes-next}
use Rattle.edges.proofs.any_passes.Goals as goal

pub loop-left-init : goal.loop-left-init
loop-left-init c = (refl, search rules)

pub returns-then-meet-ne0 : goal.returns-then-meet-ne0
returns-then-meet-ne0 c = search passes_stop

pub loop-left-preserved : goal.loop-left-preserved
loop-left-preserved c = (search passes-next, omega arith)

pub returns : goal.returns
returns c = search passes-end
