-- `truth::true_at` meets its contract.
use Rattle.truth.proofs.Operations.{cell_low, true_told}
use Rattle.truth.proofs.true_at.Goals as goal

pub has-requires : goal.has-requires
has-requires c = search cell_low

pub returns : goal.returns
returns c = search true_told
