-- `fields::get` meets its contract.
use Rattle.std.specs.Prelude.{◌+◌}
use Rattle.std.proofs.Common.{arith}
use Rattle.fields.proofs.Turns.{field_none, field_next, below_next, power_most}
use Rattle.fields.proofs.get.Goals as goal

pub loop-i-init : goal.loop-i-init
loop-i-init g c = record { read = search field_none; small = omega arith }

pub overflow_mul-v : goal.overflow_mul-v
overflow_mul-v g c = record {
  fits = omega (arith, below_next c.loop-i.i c.loop-i.v 0 c.loop-i.invariant.small, power_most (c.loop-i.i + 1));
}

pub overflow_add-v-in-loop-i : goal.overflow_add-v-in-loop-i
overflow_add-v-in-loop-i g c = record {
  fits = omega (
    arith,
    below_next c.loop-i.i c.loop-i.v _ c.loop-i.invariant.small (c.type_inv.s (c.args.at + c.loop-i.i)).fits,
    power_most (c.loop-i.i + 1),
  );
}

pub loop-i-preserved : goal.loop-i-preserved
loop-i-preserved g c = record {
  read = field_next _ _ _ _ c.loop-i.invariant.read;
  small = below_next _ _ _ c.loop-i.invariant.small (c.type_inv.s _).fits;
}
