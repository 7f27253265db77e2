-- `question_text::put_both` meets its contract.
use Rattle.question_text.proofs.Pieces.{both_put}
use Rattle.question_text.proofs.put_both.Goals as goal

pub returns : goal.returns
returns c = search both_put
