-- `search_links::lead_from` meets its contract. The invariant: no link passed is from the node or a later one.
use native.Mathlib.Omega.{arith}
use Rattle.search_links.specs.BookHopLaws.{lead-le}
use Rattle.search_links.proofs.Laws.{lead_stop, lead-next}
use Rattle.search_links.proofs.lead_from.Goals as goal

pub returns-then-x-from : goal.returns-then-x-from
returns-then-x-from c = search lead_stop

pub loop-at-preserved : goal.loop-at-preserved
loop-at-preserved c = search lead-next

pub returns : goal.returns
returns c = omega (arith, lead-le c.args.count c.args.from.now c.args.x)
