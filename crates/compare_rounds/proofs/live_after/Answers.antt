-- `compare_rounds::live_after` meets its contract.
use Rattle.compare_rounds.proofs.OneRound.{live_is}
use Rattle.compare_rounds.proofs.live_after.Goals as goal

pub returns : goal.returns
returns c = search live_is
