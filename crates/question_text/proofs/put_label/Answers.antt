-- `question_text::put_label` meets its contract.
use Rattle.question_text.proofs.Pieces.{slash_fits, label_fits, label_put}
use Rattle.question_text.proofs.put_label.Goals as goal

pub put_byte-next-requires : goal.put_byte-next-requires
put_byte-next-requires c = search slash_fits

pub put_number-requires : goal.put_number-requires
put_number-requires c = search label_fits

pub returns : goal.returns
returns c = search label_put
