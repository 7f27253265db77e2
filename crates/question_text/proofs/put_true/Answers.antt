-- `question_text::put_true` meets its contract.
use Rattle.question_text.proofs.Pieces.{third_fits, third_put}
use Rattle.question_text.proofs.put_true.Goals as goal

pub put_byte-requires : goal.put_byte-requires
put_byte-requires c = search third_fits

pub returns : goal.returns
returns c = search third_put
