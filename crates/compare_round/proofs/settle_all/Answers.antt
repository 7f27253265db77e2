-- `compare_round::settle_all` meets its contract. The invariant: the round stands before the row.
use Rattle.compare_round.proofs.Exits.{map_begun, map_stands, map_next, map_done}
use Rattle.compare_round.proofs.settle_all.Goals as goal

pub loop-row-init : goal.loop-row-init
loop-row-init c = search map_begun

pub settle_row-p-requires : goal.settle_row-p-requires
settle_row-p-requires c = (map_stands c.loop-row.invariant, c.loop-row-test.true)

pub loop-row-preserved : goal.loop-row-preserved
loop-row-preserved c = search map_next

pub returns : goal.returns
returns c = search map_done
