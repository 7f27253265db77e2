-- `compare_entries::way_along` meets its contract. The invariant: the steps of the links passed are made.
use Rattle.compare_entries.proofs.Parting.{filled_none, filled_more, filled_all, link-below, number_below, number_fits}
use Rattle.compare_entries.proofs.way_along.Goals as goal

pub loop-i-init : goal.loop-i-init
loop-i-init c = search filled_none

pub target-requires : goal.target-requires
target-requires c = search link-below

pub overflow_add-x : goal.overflow_add-x
overflow_add-x c = search number_fits

pub label-requires : goal.label-requires
label-requires c = search link-below

pub bounds-numbers-x : goal.bounds-numbers-x
bounds-numbers-x c = search number_below

pub loop-i-preserved : goal.loop-i-preserved
loop-i-preserved c = search filled_more

pub returns : goal.returns
returns c = search filled_all
