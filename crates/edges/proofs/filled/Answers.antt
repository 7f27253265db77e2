-- `edges::filled` meets its contract.
use Rattle.std.proofs.Common.{rules, not, eqb, get_or}
use Rattle.edges.specs.Differing.{filled}
use Rattle.edges.proofs.filled.Goals as goal

pub returns : goal.returns
unfolding filled
returns c = c.those.ensures (λ x. not (eqb (get_or c.args.rows.now x 0) 0)) (λ x r l f. search rules)
