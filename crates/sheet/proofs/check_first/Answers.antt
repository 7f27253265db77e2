-- `sheet::check_first` meets its contract: a law for each way out.
use mathlib.Core.Path.{refl, sym, ap, ◌∙◌}
use native.Mathlib.Omega.{arith}
use Rattle.outcome.specs.Refused.{number}
use Rattle.outcome.specs.RefusalLaws.{number-some}
use Rattle.sheet.proofs.Bodies.{body_plain}
use Rattle.sheet.proofs.KindLaws.{kind_none}
use Rattle.sheet.proofs.Laws.{passed_on, kind_above, kind_first, kind_true, entry_uncounted, entry_kind, entry_body}
use Rattle.sheet.proofs.check_first.Goals as goal

pub returns-in_err-count : goal.returns-in_err-count
returns-in_err-count c v b = passed_on _ _ _ c.from_residual.ensures.1 (search (entry_uncounted, number-some, c.in_err-count.ensures.refusal))

pub returns-in_err-kind : goal.returns-in_err-kind
returns-in_err-kind c v b =
    let d = ap number c.in_err-kind.ensures.0 ∙ kind_above 0 _ c.in_err-kind.ensures.1 in
    passed_on _ _ _ c.from_residual-in_err-kind.ensures.1 (entry_kind _ _ _ _ _ c.in_ok-count.ensures.refusal _ d (number-some _))

pub returns-then-ne : goal.returns-then-ne
returns-then-ne c v b = entry_kind _ _ _ _ _ c.in_ok-count.ensures.refusal _ (kind_first 0 _ _ c.in_ok-kind.ensures refl c.if-ne.ensures) (λ z. omega (arith, z))

pub returns : goal.returns
returns c v b =
    let k = kind_true 0 _ _ c.in_ok-kind.ensures refl c.if-ne.ensures in
    let z = sym (kind_none _ c.if-ne.ensures) ∙ c.in_ok-kind.ensures in
    let t = c.check_true.ensures c.args.s.now 0 10 ∙ body_plain 0 v c.args.s.now 0 b 0 0 10 _ (omega arith) in
    entry_body _ _ _ _ _ c.in_ok-count.ensures.refusal _ k refl _ _ z c.in_ok-count.ensures.count.0 _ t
