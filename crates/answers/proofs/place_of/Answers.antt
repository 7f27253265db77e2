-- `answers::place_of` meets its contract.
use Rattle.answers.proofs.PairExits.{place_matched, place_hidden, place_parted}
use Rattle.answers.proofs.place_of.Goals as goal

pub returns-in-0 : goal.returns-in-0
returns-in-0 c = search place_matched

pub returns-in-65535 : goal.returns-in-65535
returns-in-65535 c = search place_hidden

pub returns-in_default : goal.returns-in_default
returns-in_default c = search place_parted
