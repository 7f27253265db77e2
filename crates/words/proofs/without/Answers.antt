-- `words::without` meets its contract.
use native.Mathlib.Omega.{arith}
use Rattle.words.specs.Laws.{cell_pos, lowest_off, without_less}
use Rattle.words.proofs.without.Goals as goal

pub overflow_sub-result : goal.overflow_sub-result
overflow_sub-result c = omega (arith, cell_pos _ _ c.requires.there)

pub returns : goal.returns
returns c =
    let e = lowest_off 64 c.args.w c.args.i c.ranges.w.fits c.requires.is c.requires.small c.requires.there in
    record { is = e; less = rw e (without_less 64 c.args.w c.args.i c.ranges.w.fits c.requires.small c.requires.there) }
