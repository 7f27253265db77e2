-- `compare_rounds::round` meets its contract.
use Rattle.compare_rounds.proofs.OneRound.{left_few, right_few, mapped, stands, mapped-next, turned_round}
use Rattle.compare_rounds.proofs.round.Goals as goal

pub rows_of-rows-requires : goal.rows_of-rows-requires
rows_of-rows-requires c = search mapped

pub columns_of-columns-requires : goal.columns_of-columns-requires
columns_of-columns-requires c = (search left_few, search right_few)

pub settle_all-next-requires : goal.settle_all-next-requires
settle_all-next-requires c = stands c.requires c.rows_of-rows.ensures c.columns_of-columns.ensures

pub live_after-near-requires : goal.live_after-near-requires
live_after-near-requires c = mapped-next c.requires c.rows_of-rows.ensures c.columns_of-columns.ensures c.settle_all-next.ensures

pub returns : goal.returns
returns c = turned_round c.requires c.rows_of-rows.ensures c.columns_of-columns.ensures c.settle_all-next.ensures _ c.live_after-near.ensures
