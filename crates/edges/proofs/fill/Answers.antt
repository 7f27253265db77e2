-- `edges::fill` meets its contract. The invariant: of the links passed, those that are seen are loaded.
use native.Mathlib.Omega.{arith}
use Rattle.edges.proofs.Books.{from_low, to_low, filled_none, filled_more, filled_skip, filled_all}
use Rattle.edges.proofs.fill.Goals as goal
use Rattle.edges.proofs.fill.Goals.{then-clear, else-clear}

pub loop-k-init : goal.loop-k-init
loop-k-init c = (search filled_none, omega arith)

pub clear-requires : goal.clear-requires
clear-requires c = (search from_low, search to_low)

pub loop-k-preserved : goal.loop-k-preserved
loop-k-preserved c =
    elim c.if-clear.branch [ then-clear w ↦ (search filled_more, omega arith) | else-clear w ↦ (search filled_skip, omega arith) ]

pub returns : goal.returns
returns c = search filled_all
