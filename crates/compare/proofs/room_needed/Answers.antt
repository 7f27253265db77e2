-- `compare::room_needed` meets its contract.
use native.Mathlib.Omega.{arith}
use Rattle.compare.proofs.Exits.{room_is_needed, room_small}
use Rattle.compare.proofs.room_needed.Goals as goal

pub overflow_mul-result : goal.overflow_mul-result
overflow_mul-result c = omega (arith, room_small _ c.steps_size-bytes.result c.args.pairs c.steps_size-bytes.ensures.0 (omega arith))

pub overflow_add-result : goal.overflow_add-result
overflow_add-result c = omega (arith, room_small _ c.steps_size-bytes.result c.args.pairs c.steps_size-bytes.ensures.0 (omega arith))

pub returns : goal.returns
returns c = search room_is_needed
