-- `compare_entries::part_left` meets its contract.
use Rattle.compare_entries.proofs.Parting.{left_roomy, parted_left}
use borrow.Author.Rules.{rules}
use Rattle.compare_entries.proofs.part_left.Goals as goal

pub describe-requires : goal.describe-requires
describe-requires c = (search left_roomy, search rules, search rules)

pub returns : goal.returns
returns c = search parted_left
