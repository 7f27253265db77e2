-- `words::inside` meets its contract.
use Rattle.words.specs.Laws.{inside_iff}
use Rattle.words.proofs.inside.Goals as goal

pub returns : goal.returns
returns c = inside_iff 64 c.args.a c.args.b c.ranges.a.fits
