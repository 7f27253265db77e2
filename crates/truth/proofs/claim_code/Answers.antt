-- `truth::claim_code` meets its contract. A number that is too large for its type is cut, which changes no answer.
use mathlib.Core.Path.{◌∙◌}
use Rattle.truth.proofs.Operations.{claim_coded, claim_accepted}
use Rattle.truth.proofs.claim_code.Goals as goal

pub returns-in-Ok : goal.returns-in-Ok
returns-in-Ok c =
    let e = c.accepted.ensures ∙ claim_accepted c.in-Ok.yes in
    claim_coded _ _ _ _ _ _ _ _ _ _ _ _ _ _ c.min.ensures c.min-2.ensures c.min-3.ensures c.in-Ok.ensures e

pub returns-in-Err : goal.returns-in-Err
returns-in-Err c = claim_coded _ _ _ _ _ _ _ _ _ _ _ _ _ _ c.min.ensures c.min-2.ensures c.min-3.ensures c.in-Err.ensures c.code.ensures
