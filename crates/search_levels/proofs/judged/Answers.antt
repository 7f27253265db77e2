-- `search_levels::judged` meets its contract.
use mathlib.Core.Path.{refl}
use Rattle.search_levels.proofs.Deciding.{judged_short, judged_told}
use Rattle.search_levels.proofs.judged.Goals as goal

pub returns-then-t-c : goal.returns-then-t-c
returns-then-t-c c = search judged_short

pub returns : goal.returns
returns c = judged_told _ _ _ _ _ _ c.requires.0 c.if-t-c.false _ refl _ c.two_tips-fails.ensures _ refl refl refl refl
