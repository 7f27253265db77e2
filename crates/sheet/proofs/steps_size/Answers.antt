-- `sheet::steps_size` meets its contract.
use native.Mathlib.Omega.{arith}
use Rattle.sheet.proofs.Laws.{product_is, product_most, product_fits}
use Rattle.sheet.proofs.steps_size.Goals as goal

pub overflow_mul-result : goal.overflow_mul-result
overflow_mul-result c = omega (arith, product_fits c.label_width-width.result c.args.count (omega arith) (omega arith))

pub returns : goal.returns
returns c = (search product_is, search product_most)
