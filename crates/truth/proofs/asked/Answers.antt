-- `truth::asked` meets its contract.
use Rattle.truth.proofs.Operations.{cell_low, asked-hidden, asked_here, asked-not}
use Rattle.truth.proofs.asked.Goals as goal

pub has-requires : goal.has-requires
has-requires c = search cell_low

pub returns-then-has : goal.returns-then-has
returns-then-has c = search asked-hidden

pub returns-then-here : goal.returns-then-here
returns-then-here c = search asked_here

pub returns : goal.returns
returns c = search asked-not
