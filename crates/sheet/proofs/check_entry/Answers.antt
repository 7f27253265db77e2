-- `sheet::check_entry` meets its contract: a law for each way out.
use mathlib.Core.Path.{refl, ap, ◌∙◌}
use native.Mathlib.Omega.{arith}
use Rattle.outcome.specs.Refused.{number}
use Rattle.outcome.specs.RefusalLaws.{number-some}
use Rattle.sheet.proofs.Laws.{passed_on, kind_above, kind_later, entry_uncounted, entry_kind, entry_body}
use Rattle.sheet.proofs.check_entry.Goals as goal

pub returns-in_err-count : goal.returns-in_err-count
returns-in_err-count c = passed_on _ _ _ c.from_residual.ensures.1 (search (entry_uncounted, number-some, c.in_err-count.ensures.refusal))

pub returns-in_err-kind : goal.returns-in_err-kind
returns-in_err-kind c =
    let d = ap number c.in_err-kind.ensures.0 ∙ kind_above c.args.n _ c.in_err-kind.ensures.1 in
    passed_on _ _ _ c.from_residual-in_err-kind.ensures.1 (entry_kind _ _ _ _ _ c.in_ok-count.ensures.refusal _ d (number-some _))

pub returns : goal.returns
returns c =
    let k = kind_later c.args.n _ _ c.in_ok-kind.ensures (λ z. omega (arith, z, c.requires)) in
    entry_body _ _ _ _ _ c.in_ok-count.ensures.refusal _ k refl _ _ c.in_ok-kind.ensures c.in_ok-count.ensures.count.0 _ c.check_body.ensures
