-- `search_links::row_by` meets its contract. The invariant: the labels of the links passed are not above; and what they lead to, and those still to come,
-- is the row.
use mathlib.Core.Path.{refl}
use native.Mathlib.Omega.{arith}
use lib.Dec.{lit<}
use Rattle.search_links.proofs.Laws.{targets_start, targets_in, targets_skip, targets_end, under_start, under_next, least_none, above_on, least_found}
use Rattle.search_links.proofs.row_by.Goals as goal
use Rattle.search_links.proofs.row_by.Goals.{then-found-by, else-found-by}

pub loop-k-init : goal.loop-k-init
loop-k-init c = record { row = targets_start _ _ _ _; word = lit< tt; passed = under_start _ _ _ _ refl }

pub returns-then-by-found : goal.returns-then-by-found
returns-then-by-found c =
    let i = c.loop-k.invariant in
    let o = c.args.a.now.ordered in
    let l = c.loop-k-test.true in
    let d = c.label-found.ensures in
    record {
      set = targets_end _ _ _ _ _ _ i.row (λ j p q e. omega (arith, above_on _ _ _ _ i.passed o c.requires _ refl l _ d (omega (arith, c.if-by-found.true)) j p q)) i.word;
      next = least_found _ _ _ _ i.passed o c.requires _ refl l _ d (omega (arith, c.if-by-found.true)) _ _ c.label-found.type_inv c.min.ensures;
    }

pub loop-k-preserved : goal.loop-k-preserved
loop-k-preserved c =
    let i = c.loop-k.invariant in
    let l = c.loop-k-test.true in
    let d = c.label-found.ensures in
    let n = under_next _ _ _ _ i.passed _ d (omega (arith, c.if-by-found.false)) in
    elim c.if-found-by.branch [
      | then-found-by w ↦ record { row = targets_in _ _ _ _ _ _ i.row l _ d w.if-found-by.true _ _ (rw w.target.ensures at w.with-set.ensures) w.set-is; word = omega arith; passed = n }
      | else-found-by w ↦ record { row = targets_skip _ _ _ _ _ _ i.row l _ d w.if-found-by.false _ w.set-is; word = omega arith; passed = n }
    ]

pub returns : goal.returns
returns c = record { set = targets_end _ _ _ _ _ _ c.loop-k.invariant.row (λ i p q. absurd (omega arith)) c.loop-k.invariant.word; next = least_none _ _ _ _ c.loop-k.invariant.passed _ _ refl c.loop-k-test.false }
