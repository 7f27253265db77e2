-- `search_steps::put_rows` meets its contract. The invariant: of each cell, it is still to come, or its row stands and none of its labels lies between.
use native.Mathlib.Omega.{arith}
use Prim.Native.Nat.{◌*◌, ◌≤◌}
use Rattle.search_links.specs.Sides.{half, half_small}
use Rattle.search_steps.proofs.Exits.{labelling_next, labelling_end, rowing_next, rowing_end}
use Rattle.search_steps.proofs.put_rows.Goals as goal

pub loop-left-preserved : goal.loop-left-preserved
loop-left-preserved c =
    let small : 64 * half c.args.t ≤ 64 = omega (arith, half_small c.args.t) in
    record { rowing = rw c.start.ensures (search rowing_next); labelling = search labelling_next }

pub returns : goal.returns
returns c = (search rowing_end, search labelling_end)
