-- `text::put_ending` meets its contract.
use Rattle.text.specs.Text.{ending}
use Rattle.text.specs.Laws.{wrote_both}
use Rattle.text.proofs.put_ending.Goals as goal

pub returns : goal.returns
unfolding ending
returns c = search wrote_both
