-- `book::Book::check` meets its contract.
use Rattle.std.proofs.Common.{sym, ◌∙◌, refl}
use Rattle.outcome.specs.RefusalLaws.{number-some, refusal_passed}
use Rattle.book.proofs.Laws.{refusal_head, refusal_links}
use Rattle.book.proofs.accepted.Book.check.Goals as goal

pub returns-in_err-check_head-clause-refusal : goal.returns-in_err-check_head-clause-refusal
returns-in_err-check_head-clause-refusal c =
    let e = c.in_err-check_head.field-0.0 in
    refusal_passed c.from_residual.result e c.from_residual.ensures.1 ∙ refusal_head _ _ c.in_err-check_head.ensures (number-some e)

pub returns-in_err-check_links-clause-refusal : goal.returns-in_err-check_links-clause-refusal
returns-in_err-check_links-clause-refusal c =
    let e = c.in_err-check_links.field-0.0 in
    refusal_passed c.from_residual-in_err-check_links.result e c.from_residual-in_err-check_links.ensures.1
    ∙ refusal_links _ _ c.in_ok-check_head.ensures refl _ c.in_err-check_links.ensures

pub invariant_of-result : goal.invariant_of-result
invariant_of-result c = record { accepted = sym (refusal_links _ _ c.in_ok-check_head.ensures refl _ c.in_ok-check_links.ensures) }
