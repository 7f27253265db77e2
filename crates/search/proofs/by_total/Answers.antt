-- `search::by_total` meets its contract. The invariant: what has fewer links in all is clear, and the levels stand.
use mathlib.Core.Path.{refl}
use native.Mathlib.Omega.{arith}
use lib.ListN.{replicate}
use Rattle.search_levels.specs.Laws.{first_laid, first_standing}
use Rattle.search.proofs.Ranges.{couple_some, couple_none, totals_start, totals_next, totals_end, totals_found}
use Rattle.search.proofs.by_total.Goals as goal

pub loop-s-init : goal.loop-s-init
loop-s-init c = (
  first_laid (replicate 64 0) (replicate 64 0) _ _ refl refl _ c.first_level-levels.ensures,
  first_standing _ _ _ _ _ (replicate 64 0) (replicate 64 0) _ _ _ _ _ c.only.ensures c.only-2.ensures c.requires.0 refl refl _ c.first_level-levels.ensures,
  totals_start _ _ _ _ _ _ _ _,
)

pub returns-then-is_some : goal.returns-then-is_some
returns-then-is_some c =
    totals_found _ _ _ _ _ _ _ _ _ c.loop-s.invariant.2 _ c.by_lengths-found.ensures (couple_some _ _ c.is_some.ensures c.if-is_some.true)

pub loop-s-preserved : goal.loop-s-preserved
loop-s-preserved c = (
  c.ready-levels.ensures.0,
  c.ready-levels.ensures.1,
  totals_next _ _ _ _ _ _ _ _ _ c.loop-s.invariant.2 _ c.by_lengths-found.ensures (couple_none _ _ c.is_some.ensures c.if-is_some.false),
)

pub returns-else-is_some : goal.returns-else-is_some
returns-else-is_some c =
    totals_end _ _ _ _ _ _ _ _ _
    (totals_next _ _ _ _ _ _ _ _ _ c.loop-s.invariant.2 _ c.by_lengths-found.ensures (couple_none _ _ c.is_some.ensures c.if-is_some.false)) _ (omega arith) refl

pub returns : goal.returns
returns c = totals_end _ _ _ _ _ _ _ _ _ c.loop-s.invariant.2 _ (omega arith) refl
