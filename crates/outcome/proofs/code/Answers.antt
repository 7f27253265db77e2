-- `outcome::code` meets its contract.
use native.Mathlib.Omega.{arith}
use Rattle.outcome.specs.Outcome.{code}
use Rattle.outcome.proofs.code.Goals as goal

pub returns : goal.returns
unfolding code
returns c = omega arith
