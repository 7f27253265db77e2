-- `answers::pair_of` meets its contract.
use Rattle.answers.proofs.PairExits.{pair_outside, pair_matched, pair_hidden, pair_unknown, pair_known}
use Rattle.answers.proofs.pair_of.Goals as goal

pub returns-then-map-place : goal.returns-then-map-place
returns-then-map-place c = search pair_outside

pub returns-then-entries-question : goal.returns-then-entries-question
returns-then-entries-question c = search pair_unknown

pub returns-in-Matched : goal.returns-in-Matched
returns-in-Matched c = search pair_matched

pub returns-in-Hidden : goal.returns-in-Hidden
returns-in-Hidden c = search pair_hidden

pub returns-else-entries-question : goal.returns-else-entries-question
returns-else-entries-question c = search pair_known
