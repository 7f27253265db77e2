use Rattle.search_steps.proofs.Exits.{step_is}
use Rattle.search_steps.proofs.step.Goals as goal

pub returns : goal.returns
returns c = search step_is
