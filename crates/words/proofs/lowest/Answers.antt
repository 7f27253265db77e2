-- `words::lowest` meets its contract.
use mathlib.Core.Path.{◌≡◌}
use Prim.Native.Nat.{◌<◌}
use lib.Count.{count_trailing_zeros}
use Rattle.words.specs.Words.{bit, first}
use Rattle.words.specs.Laws.{trailing_first, first-lt, first_there}
use Rattle.words.proofs.lowest.Goals as goal

pub returns : goal.returns
returns c =
    let w = c.args.w in
    let e : count_trailing_zeros 64 w ≡ first 64 (bit w) = trailing_first 64 w in
    let l : first 64 (bit w) < 64 = first-lt 64 w c.requires c.ranges.w.fits in
    record { is = e; small = rw e l; there = rw e (first_there 64 (bit w) l) }
