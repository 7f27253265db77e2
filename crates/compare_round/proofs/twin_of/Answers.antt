-- `compare_round::twin_of` meets its contract.
use Rattle.compare_round.proofs.Twins.{twin_known, twin_found, twin_none}
use Rattle.compare_round.proofs.twin_of.Goals as goal

pub returns-then-is_some : goal.returns-then-is_some
returns-then-is_some c = search twin_known

pub returns-then-map-i-eq0 : goal.returns-then-map-i-eq0
returns-then-map-i-eq0 c = search twin_found

pub returns : goal.returns
returns c = search twin_none
