use mathlib.Core.Path.{refl}
use Rattle.search_levels.specs.Depths.{silenced}
use Rattle.search_levels.proofs.quiet.Goals as goal

pub returns : goal.returns
unfolding silenced
returns c = refl
