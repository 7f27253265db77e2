-- `answers::pair` meets its contract.
use Rattle.answers.proofs.PairExits.{pair_refused}
use Rattle.answers.proofs.pair.Goals as goal

pub returns-in-Err : goal.returns-in-Err
returns-in-Err c = search (pair_refused, c.in-Err.ensures.refusal)
