-- `edges::gather` meets its contract. The invariant is that of `image`, for rows.
use native.Mathlib.Omega.{arith}
use Rattle.edges.specs.Edges.{empty_rows}
use Rattle.edges.proofs.Laws.{until_within, start_within, gather_start, gather-end, gather-next, gather-other, gather_outside, within_start, within_more, within_same}
use Rattle.edges.proofs.gather.Goals as goal
use Rattle.edges.proofs.gather.Goals.{then-links-k+then-has, then-links-k+else-has, else-links-k}

pub loop-k-init : goal.loop-k-init
unfolding empty_rows
loop-k-init c = (search gather_start, search start_within, search within_start)

pub loop-k-preserved : goal.loop-k-preserved
loop-k-preserved c =
    let m = until_within _ c.args.links.now.from _ c.args.links.now.to c.args.links.now.grouped _ _ c.group_with-group.ensures in
    let h = c.loop-k-test.true in
    let i = c.loop-k.invariant in
    elim c.if-links-k.branch [
      | then-links-k+then-has w ↦ (search (gather-next _ _ _ _ _ _ _ _ _ _ i.0 _ h m), omega arith, search (within_more _ _ i.2))
      | then-links-k+else-has w ↦ (search (gather_outside _ _ _ _ _ _ _ _ _ _ i.0 _ h m), omega arith, search within_same)
      | else-links-k w ↦ (search (gather-other _ _ _ _ _ _ _ _ _ _ i.0 _ h m), omega arith, search within_same)
    ]

pub returns : goal.returns
returns c = search gather-end
