use mathlib.Core.Path.{refl}
use Rattle.search_steps.proofs.Exits.{stretching_next, stretching_full}
use Rattle.search_steps.proofs.fill_label.Goals as goal

pub returns-then-g : goal.returns-then-g
returns-then-g c = stretching_full _ _ _ _ _ _ _ _ _ _ _ _ _ _ _ _ _ c.loop-e.invariant _ _ c.passing-cells.ensures c.passing-s.ensures c.loop-e-test.true _ _ _ c.grow-g.ensures c.if-g.true _ refl refl refl

pub loop-e-preserved : goal.loop-e-preserved
loop-e-preserved c = stretching_next _ _ _ _ _ _ _ _ _ _ _ _ _ _ _ _ _ c.loop-e.invariant _ _ c.passing-cells.ensures c.passing-s.ensures c.loop-e-test.true _ _ _ c.grow-g.ensures c.if-g.false
