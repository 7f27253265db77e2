-- `edges::image` meets its contract. The invariant: the image of the links still to visit, onto what is found, is the answer.
use native.Mathlib.Omega.{arith}
use Rattle.edges.proofs.Laws.{until_within, start_within, image_start, image-end, image-next, image_skip}
use Rattle.edges.proofs.image.Goals as goal
use Rattle.edges.proofs.image.Goals.{then-links-k, else-links-k}

pub loop-k-init : goal.loop-k-init
loop-k-init c = (search image_start, search start_within)

pub loop-k-preserved : goal.loop-k-preserved
loop-k-preserved c =
    let m = until_within _ c.args.links.now.from _ c.args.links.now.to c.args.links.now.grouped _ _ c.group_with-group.ensures in
    let h = c.loop-k-test.true in
    elim c.if-links-k.branch [ then-links-k w ↦ (search image-next, omega arith) | else-links-k w ↦ (search image_skip, omega arith) ]

pub returns : goal.returns
returns c = search image-end
