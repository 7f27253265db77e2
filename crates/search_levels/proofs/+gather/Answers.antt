-- `search_levels::gather` meets its contract. The invariant: the table covers the tips by the classes and labels passed.
use mathlib.Core.Path.{refl}
use native.Mathlib.Omega.{arith}
use borrow.Author.Rules.{rules}
use Rattle.search_levels.proofs.Gathering.{gathered_last, gathering_next, gathering_full, gathering_end}
use Rattle.search_levels.proofs.+gather.Goals as goal

pub returns-then-more-eq1 : goal.returns-then-more-eq1
returns-then-more-eq1 t c = gathered_last _ _ _ _ _ _ _ _ _ _ _ _ _ _ _ c.if-more-eq1.true _ _ _ c.fill-last.ensures _ refl refl

pub returns-then-p : goal.returns-then-p
returns-then-p t c = gathering_full _ _ _ _ _ _ _ _ _ _ _ _ _ _ _ _ (λ e. omega arith) _ _ _ c.loop-at.invariant.3 _ _ _ _ _ c.fill-part.ensures _ _ _ c.gather-p.ensures c.if-p.true

pub loop-at-preserved : goal.loop-at-preserved
loop-at-preserved t c = (search rules, c.fill-part.ensures.most, record { left = c.fill-part.ensures.room.left; right = c.fill-part.ensures.room.right; few = omega arith }, gathering_next _ _ _ _ _ _ _ _ _ _ _ _ _ _ _ _ (λ e. omega arith) _ _ _ c.loop-at.invariant.3 _ _ _ _ _ c.fill-part.ensures _ _ _ c.gather-p.ensures c.if-p.false)

pub returns : goal.returns
returns t c = gathering_end _ _ _ _ _ _ _ _ _ _ _ _ _ _ _ _ (λ e. omega arith) _ _ _ c.loop-at.invariant.3 c.loop-at-test.false c.loop-at.invariant.1 _ refl
