-- `search_levels::deepen` meets its contract.
use mathlib.Core.Path.{refl}
use native.Mathlib.Omega.{arith}
use Rattle.search_levels.proofs.Deepening.{became_full, became_next}
use Rattle.search_levels.proofs.deepen.Goals as goal

pub returns-then-g : goal.returns-then-g
returns-then-g c =
    let start = c.requires in
    (became_full _ _ _ _ _ _ _ _ start.0 _ _ c.last_exact-first.ensures _ _ _ c.gather-g.ensures, omega arith)

pub returns : goal.returns
returns c =
    let start = c.requires in
    (became_next _ _ _ _ _ _ _ _ start.0 _ _ c.last_exact-first.ensures _ _ _ c.gather-g.ensures start.1 start.2 c.if-g.false _ refl refl c.exact_after.ensures refl, omega arith)
