-- `search_links::spread` meets its contract. The invariant: what is found, and what is left has, is the answer.
use native.Mathlib.Omega.{arith}
use borrow.Author.Rules.{rules}
use lib.Dec.{lit<}
use Rattle.search_links.proofs.Laws.{spread_start, spread-next, spread_end}
use Rattle.search_links.proofs.spread.Goals as goal

pub loop-left-init : goal.loop-left-init
loop-left-init g c = (λ f e. spread_start _ _, lit< tt, search rules)

pub loop-left-preserved : goal.loop-left-preserved
loop-left-preserved g c =
    let low = c.lowest-x.ensures in
    let off = c.without-left.ensures in (
      λ f e. spread-next f _ _ _ _ (c.loop-left.invariant.0 f e) low.small low.there _ _ _ (e _ _ low.small c.rule-more.ensures) c.union-out.ensures off.is,
      omega arith,
      omega arith,
    )

pub returns : goal.returns
returns g c = λ f e. spread_end f _ _ _ (c.loop-left.invariant.0 f e) c.loop-left.invariant.1 c.loop-left-test.false
