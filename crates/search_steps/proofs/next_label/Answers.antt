-- `search_steps::next_label` meets its contract. The invariant: of each cell, it is still to come, or none of its labels lies between.
use Rattle.search_steps.proofs.Exits.{labelling_next, labelling_end}
use Rattle.search_steps.proofs.next_label.Goals as goal

pub loop-left-preserved : goal.loop-left-preserved
loop-left-preserved c = search labelling_next

pub returns : goal.returns
returns c = search labelling_end
