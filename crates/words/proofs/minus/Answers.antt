-- `words::minus` meets its contract.
use native.Mathlib.Omega.{arith}
use Rattle.words.specs.Laws.{bit_minus, minus_sum, minus_less}
use Rattle.words.proofs.minus.Goals as goal

pub returns : goal.returns
returns c =
    let a = c.args.a in
    let b = c.args.b in
    record {
      bits = bit_minus a b;
      most = omega (arith, minus_sum 64 a b c.ranges.a.fits);
      less = λ i s t. minus_less 64 a b i c.ranges.a.fits s t;
    }
