-- `book::check_links` meets its contract.
use Rattle.std.proofs.Common.{◌∙◌, refl, arith}
use Rattle.outcome.specs.RefusalLaws.{number-some, refusal_passed}
use Rattle.book.proofs.Laws.{head_long, links_end, links_stop, links_next, preceding-next}
use Rattle.book.proofs.check_links.Goals as goal

pub links_of-k-end-requires : goal.links_of-k-end-requires
links_of-k-end-requires c = search head_long

pub returns-in_err-check_link : goal.returns-in_err-check_link
returns-in_err-check_link c =
    let e = c.in_err-check_link.field-0.0 in
    refusal_passed c.from_residual.result e c.from_residual.ensures.1
    ∙ links_stop _ _ c.loop-k.invariant.0 (omega arith) _ c.in_err-check_link.ensures.refusal (number-some e)

pub loop-k-preserved : goal.loop-k-preserved
loop-k-preserved c = (
  links_next _ _ c.loop-k.invariant.0 (omega arith) 0 c.in_ok-check_link.ensures.refusal refl,
  preceding-next _ _ _ c.in_ok-check_link.ensures.read,
)

pub returns : goal.returns
returns c = links_end _ _ c.loop-k.invariant.0 (omega arith)
