-- `Sheet::check` meets its contract: what the answer says.
use Rattle.sheet.proofs.AcceptedLaws.{answer_accepting, answer_refusing}
use Rattle.sheet.proofs.Laws.{passed_on}
use Rattle.sheet.proofs.accepted.Sheet.check.Goals as goal

pub returns-in_err-check-clause-refusal : goal.returns-in_err-check-clause-refusal
returns-in_err-check-clause-refusal c = passed_on _ _ _ c.from_residual.ensures.1 (answer_refusing _ _ c.in_err-check.ensures).first

pub invariant_of-result : goal.invariant_of-result
invariant_of-result c = record { accepted = (answer_accepting _ _ c.in_ok-check.ensures).good }
