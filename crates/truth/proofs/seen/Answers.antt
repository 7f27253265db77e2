-- `truth::seen` meets its contract.
use Rattle.truth.proofs.Operations.{seen-word}
use Rattle.truth.proofs.seen.Goals as goal

pub returns : goal.returns
returns c = search seen-word
