-- `edges::clear` meets its contract.
use Rattle.edges.proofs.Books.{none_hidden, from_hidden, from_seen}
use Rattle.edges.proofs.clear.Goals as goal

pub returns-then-hidden-eq0 : goal.returns-then-hidden-eq0
returns-then-hidden-eq0 c = search none_hidden

pub returns-then-has : goal.returns-then-has
returns-then-has c = search from_hidden

pub returns : goal.returns
returns c = search from_seen
