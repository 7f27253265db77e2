-- `text::digits` meets its contract.
use native.Mathlib.Omega.{arith}
use Rattle.text.specs.Laws.{length-numeral, decimal_few}
use Rattle.text.proofs.Exits.{digits_counted}
use Rattle.text.proofs.digits.Goals as goal

pub returns : goal.returns
returns c =
    let n = c.args.n in
    let e = digits_counted n c.max.result c.ilog10.result c.max.ensures c.ilog10.ensures.power_le c.ilog10.ensures.next_power_gt in
    (e, omega (arith, decimal_few n (omega arith)), λ h. omega (arith, length-numeral 4 n n (omega arith)))
