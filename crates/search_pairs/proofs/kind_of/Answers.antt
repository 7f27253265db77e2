-- `search_pairs::kind_of` meets its contract.
use Rattle.search_pairs.proofs.Clashes.{kind_same, kind_differ, kind_neither}
use Rattle.search_pairs.proofs.kind_of.Goals as goal

pub returns-then-fails-clause-fault : goal.returns-then-fails-clause-fault
returns-then-fails-clause-fault c = search kind_same

pub returns-then-fails-2-clause-fault : goal.returns-then-fails-2-clause-fault
returns-then-fails-2-clause-fault c = search kind_differ

pub returns-clause-fault : goal.returns-clause-fault
returns-clause-fault c = search kind_neither
