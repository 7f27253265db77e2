-- `search_tables::join` meets its contract.
use Rattle.search_tables.proofs.Exits.{joined, begun}
use Rattle.search_tables.proofs.join.Goals as goal

pub returns-then-e-n : goal.returns-then-e-n
returns-then-e-n c = search joined

pub returns : goal.returns
returns c = search begun
