-- `evaluate::way_word` meets its contract. The invariant: `out` is the word of the steps from number i on.
use borrow.Author.Rules.{rules}
use Rattle.evaluate.proofs.Laws.{way_start, way_next}
use Rattle.evaluate.proofs.way_word.Goals as goal

pub loop-i-init : goal.loop-i-init
loop-i-init c = (search way_start, search rules)

pub loop-i-preserved : goal.loop-i-preserved
loop-i-preserved c = (search way_next, search rules)
