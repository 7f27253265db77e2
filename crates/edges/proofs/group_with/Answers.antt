-- `edges::group_with` meets its contract.
use Rattle.edges.proofs.Laws.{all_found, group_found}
use Rattle.edges.proofs.group_with.Goals as goal

pub returns-then-starts-eq0 : goal.returns-then-starts-eq0
returns-then-starts-eq0 c = search all_found

pub returns : goal.returns
returns c = search group_found
