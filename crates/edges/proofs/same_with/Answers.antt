-- `edges::same_with` meets its contract.
use Rattle.std.proofs.Common.{rules, get_or}
use Rattle.theory.specs.Graph.{same}
use Rattle.book.specs.BookGraph.{passes}
use Rattle.edges.specs.BookEdges.{same_in}
use Rattle.edges.proofs.same_with.Goals as goal

pub returns : goal.returns
unfolding same_in
returns c = c.those.ensures (λ y. passes same (get_or c.args.list.now c.args.x 0) (get_or c.args.list.now y 0)) (λ x r l f. search rules)
