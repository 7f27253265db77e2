-- `edges::differ_with` meets its contract.
use Rattle.edges.proofs.Books.{differ_none, differ_some}
use Rattle.edges.proofs.differ_with.Goals as goal

pub returns-then-row-eq0 : goal.returns-then-row-eq0
returns-then-row-eq0 c = search differ_none

pub returns : goal.returns
returns c = search differ_some
