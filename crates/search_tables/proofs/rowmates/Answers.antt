-- `search_tables::rowmates` meets its contract. The invariant: each cell of the set with the row is found or still to come.
use Rattle.search_tables.proofs.Exits.{mating_start, mating_in, mating_out, mating_end}
use Rattle.search_tables.proofs.rowmates.Goals as goal

pub loop-left-init : goal.loop-left-init
loop-left-init c = search mating_start

pub loop-left-preserved-then-z-x : goal.loop-left-preserved-then-z-x
loop-left-preserved-then-z-x c = search mating_in

pub loop-left-preserved : goal.loop-left-preserved
loop-left-preserved c = search mating_out

pub returns : goal.returns
returns c = search mating_end
