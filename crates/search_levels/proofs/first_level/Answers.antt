use mathlib.Core.Path.{refl}
use Rattle.search_levels.specs.Depths.{only_first}
use Rattle.search_levels.proofs.first_level.Goals as goal

pub returns : goal.returns
unfolding only_first
returns c = refl
