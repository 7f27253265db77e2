-- `compare_entries::name_pair` meets its contract.
use native.Mathlib.Omega.{arith}
use Rattle.compare_entries.proofs.Growing.{second_roomy, second_wide, names_both}
use Rattle.compare_entries.proofs.name_pair.Goals as goal

pub describe-requires : goal.describe-requires
describe-requires c = (search second_roomy, omega arith, search second_wide)

pub returns : goal.returns
returns c = search names_both
