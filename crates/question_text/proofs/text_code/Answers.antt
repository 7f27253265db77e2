-- `question_text::text_code` meets its contract.
use Rattle.question_text.proofs.Operations.{told_written}
use Rattle.question_text.proofs.text_code.Goals as goal

pub returns : goal.returns
returns c = search told_written
