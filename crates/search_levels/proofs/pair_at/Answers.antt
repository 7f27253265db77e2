-- `search_levels::pair_at` meets its contract.
use mathlib.Core.Path.{refl}
use native.Mathlib.Omega.{arith}
use Rattle.search_levels.proofs.Deepening.{end_few}
use Rattle.search_levels.proofs.Deciding.{level_stands, level_ahead, level_none}
use Rattle.search_levels.proofs.pair_at.Goals as goal

pub first_pair-requires : goal.first_pair-requires
first_pair-requires c =
    let start = c.requires in
    (start.0, end_few _ _ _ start.3 _ c.if-t-j.false _ refl, omega arith, level_ahead _ _ _ _ _ _ _ _ _ _ start.0.left.opened start.0.cell start.0.own start.0.other start.1 start.2 start.5 _ _ _ start.4 c.if-t-j.false _ _ refl refl _ c.two_tips.ensures c.if-two_tips.true, level_stands _ _ _ _ _ _ _ _ _ _ start.0.left.opened start.0.cell start.0.own start.0.other start.1 start.2 start.5 _ _ _ start.4 c.if-t-j.false _ refl)

pub returns : goal.returns
returns c =
    let start = c.requires in
    level_none _ _ _ _ _ _ _ _ _ _ start.0.left.opened start.0.cell start.0.own start.0.other start.1 start.2 start.5 _ _ _ start.4 c.if-t-j.false _ _ refl refl _ c.two_tips.ensures c.if-two_tips.false _ refl
