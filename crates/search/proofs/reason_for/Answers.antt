-- `search::reason_for` meets its contract.
use mathlib.Core.Path.{refl}
use native.Mathlib.Omega.{arith}
use Rattle.search.proofs.Answers.{why_link, why_none, why_two}
use Rattle.search.proofs.reason_for.Goals as goal

pub returns-in-Some : goal.returns-in-Some
returns-in-Some c =
    why_link _ _ _ _ _ _ _ _ c.args.a.now.ordered.opened c.requires.0 _ c.in-Some.ensures _ refl refl refl

pub returns-in_err-pair-in-None : goal.returns-in_err-pair-in-None
returns-in_err-pair-in-None c =
    rw c.from_residual.ensures
    (why_none _ _ _ _ _ _ _ _ c.args.a.now.ordered.opened c.requires.0 c.in-None.ensures c.requires.2 _ c.in_err-pair-in-None.ensures refl)

pub returns-in_ok-pair-in-None : goal.returns-in_ok-pair-in-None
returns-in_ok-pair-in-None c =
    why_two _ _ _ _ _ _ _ _ c.args.a.now.ordered.opened c.requires.0 c.in-None.ensures c.requires.2 _ c.in_ok-pair-in-None.ensures
    (λ z. omega (arith, c.in_ok-pair-in-None.pair.compares)) _ refl refl refl
