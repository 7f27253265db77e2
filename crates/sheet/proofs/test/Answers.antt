-- `sheet::test` meets its contract: step i stands i steps on.
use native.Mathlib.Omega.{arith}
use Rattle.sheet.proofs.Laws.{test_inside, test_returned}
use Rattle.sheet.proofs.test.Goals as goal

pub get-requires : goal.get-requires
get-requires c = (omega arith, search test_inside)

pub returns : goal.returns
returns c = search test_returned
