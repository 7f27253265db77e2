use Rattle.search_steps.proofs.Exits.{union_next}
use Rattle.search_steps.proofs.union_of.Goals as goal

pub loop-e-preserved : goal.loop-e-preserved
loop-e-preserved c = search union_next
