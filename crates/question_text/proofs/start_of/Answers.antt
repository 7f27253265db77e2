-- `question_text::start_of` meets its contract.
use native.Mathlib.Omega.{arith}
use Rattle.question_text.proofs.Pieces.{start_small}
use Rattle.question_text.proofs.start_of.Goals as goal

pub overflow_cast-result : goal.overflow_cast-result
overflow_cast-result c = let l = start_small _ _ (λ i. let b = c.type_inv.sheet i in omega arith) c.requires.0 c.requires.1 in omega arith
