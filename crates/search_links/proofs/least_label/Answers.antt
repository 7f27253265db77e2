-- `search_links::least_label` meets its contract. The invariant: the labels of the links passed are below.
use mathlib.Core.Path.{refl}
use Rattle.search_links.proofs.Laws.{least_found}
use Rattle.search_links.proofs.least_label.Goals as goal

pub returns-then-least-found : goal.returns-then-least-found
returns-then-least-found c =
    least_found _ _ _ _ c.loop-k.invariant c.args.a.now.ordered c.requires _ refl c.loop-k-test.true _ c.label-found.ensures c.if-least-found.true _ _ c.label-found.type_inv c.min.ensures
