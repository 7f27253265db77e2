-- `search_pairs::first_pair` meets its contract.
use native.Mathlib.Omega.{arith}
use mathlib.Core.Path.{refl, sym}
use lib.ListN.{replicate}
use Rattle.search_pairs.proofs.Loops.{second_ahead, fails_so, sought_some}
use Rattle.search_pairs.proofs.first_pair.Goals as goal

pub first_path-second-requires : goal.first_path-second-requires
first_path-second-requires c =
    let start = c.requires in
    (record { left = start.0.left; right = start.0.right; own = start.0.own; other = start.0.other; firsts = omega arith; seconds = omega arith }, start.0.cell, start.0.second, omega arith, (λ _. refl), second_ahead _ _ _ _ _ _ _ _ _ _ _ _ _ start.4 _ c.only-partner.ensures _ c.first_path-first.ensures (replicate 64 0) (replicate 64 0) refl refl _ c.only.ensures start.0.first)

pub returns-in_err-kind : goal.returns-in_err-kind
returns-in_err-kind c =
    let start = c.requires in
    absurd (fails_so _ _ _ _ _ _ _ _ _ _ _ _ _ start.4 _ c.only-partner.ensures _ c.first_path-first.ensures (replicate 64 0) (replicate 64 0) refl refl _ c.only.ensures start.0.first _ c.first_path-second.ensures _ refl (sym c.in_err-kind.ensures.fault))

pub returns : goal.returns
returns c =
    let start = c.requires in
    sought_some _ _ _ _ _ _ _ _ _ _ _ _ _ start.4 _ c.only-partner.ensures _ c.first_path-first.ensures (replicate 64 0) (replicate 64 0) refl refl _ c.only.ensures start.0.first _ c.first_path-second.ensures _ c.in_ok-kind.ensures.fault _ refl refl refl
