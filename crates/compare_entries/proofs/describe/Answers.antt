-- `compare_entries::describe` meets its contract.
use Rattle.compare_entries.proofs.Growing.{conjoins_alone, conjoins_both}
use Rattle.compare_entries.proofs.describe.Goals as goal

pub returns-then-old-eq0 : goal.returns-then-old-eq0
returns-then-old-eq0 c = search conjoins_alone

pub returns : goal.returns
returns c = search conjoins_both
