-- `search_links::by_value` meets its contract. The invariant is that of `passing`.
use native.Mathlib.Omega.{arith}
use borrow.Author.Rules.{rules}
use lib.Dec.{lit<}
use Rattle.search_links.specs.Sides.{half_small}
use Rattle.search_links.proofs.Laws.{spread_start, value_next, spread_end}
use Rattle.search_links.proofs.by_value.Goals as goal

pub loop-left-init : goal.loop-left-init
loop-left-init c = (spread_start _ _, lit< tt, search rules)

pub loop-left-preserved : goal.loop-left-preserved
loop-left-preserved c = (value_next _ _ (half_small c.args.t) c.requires _ _ _ _ c.loop-left.invariant.0 c.lowest-x.ensures _ c.without.ensures _ _ c.row-alike.ensures c.minus-left.ensures _ _ c.row-more.ensures c.union-out.ensures, omega arith, omega arith)

pub returns : goal.returns
returns c = search spread_end
