-- `words::count` meets its contract.
use lib.Count.{ones-le}
use Rattle.words.specs.Laws.{ones_tally}
use Rattle.words.proofs.count.Goals as goal

pub returns : goal.returns
returns c =
    record { is = ones_tally 64 c.args.w c.ranges.w.fits; small = ones-le 64 c.args.w c.ranges.w.fits }
