-- `question_text::junction` meets its contract.
use Rattle.question_text.proofs.Pieces.{junction_or}
use Rattle.question_text.proofs.junction.Goals as goal

pub returns-in_default : goal.returns-in_default
returns-in_default c = search junction_or
