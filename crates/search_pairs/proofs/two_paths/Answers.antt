-- `search_pairs::two_paths` meets its contract.
use native.Mathlib.Omega.{arith}
use mathlib.Core.Path.{refl}
use lib.ListN.{replicate}
use Rattle.search_pairs.proofs.Loops.{ahead_at, one_stands, sought_none}
use Rattle.search_pairs.proofs.two_paths.Goals as goal

pub first_pair-requires : goal.first_pair-requires
first_pair-requires c =
    let start = c.requires in
    (start, omega arith, start.second, ahead_at _ _ _ _ _ _ _ _ _ _ _ _ _ c.only-partner.ensures (c.leads_on.ensures.some c.if-leads_on.true), one_stands _ _ _ _ _ (replicate 64 0) (replicate 64 0) _ _ _ _ c.only.ensures c.only-partner.ensures start.cell refl refl _ _)

pub returns : goal.returns
returns c = sought_none _ _ _ _ _ _ _ _ _ _ _ _ _ (one_stands _ _ _ _ _ (replicate 64 0) (replicate 64 0) _ _ _ _ c.only.ensures c.only-partner.ensures c.requires.cell refl refl _ _) _ c.only-partner.ensures _ c.if-leads_on.false c.leads_on.ensures _ refl
