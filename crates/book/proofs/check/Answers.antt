-- `book::check` meets its contract.
use Rattle.std.proofs.Common.{◌∙◌}
use Rattle.outcome.specs.RefusalLaws.{passed_on}
use Rattle.book.specs.AcceptedLaws.{lent_now}
use Rattle.book.proofs.Laws.{check_refused, check_accepted}
use Rattle.book.proofs.check.Goals as goal

pub returns-in_err-book : goal.returns-in_err-book
returns-in_err-book c =
    let e = c.in_err-book.field-0.0 in
    passed_on c.from_residual.result e c.from_residual.ensures.1 ∙ check_refused _ e c.in_err-book.ensures.refusal

pub returns : goal.returns
returns c =
    let b = c.in_ok-book.book in
    let e = lent_now c.args.bytes c.in_ok-book.was c.check.ensures.lent in
    check_accepted _ (rw e at b.accepted) _ _ (rw e at c.cells.ensures.0) (rw e at c.links.ensures.0)
