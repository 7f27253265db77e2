-- `question_text::put_sign` meets its contract.
use Rattle.question_text.proofs.Pieces.{same_put, differ_put}
use Rattle.question_text.proofs.put_sign.Goals as goal

pub returns-in-Same : goal.returns-in-Same
returns-in-Same c = search same_put

pub returns-in_default : goal.returns-in_default
returns-in_default c = search differ_put
