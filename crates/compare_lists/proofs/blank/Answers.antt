-- `compare_lists::blank` meets its contract.
use Rattle.compare_lists.proofs.Exits.{unlinked}
use Rattle.compare_lists.proofs.blank.Goals as goal

pub invariant_of-result : goal.invariant_of-result
invariant_of-result c = record { ordered = unlinked _ _ }
