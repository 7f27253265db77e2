-- `sheet_writer::put_steps` meets its contract: the loop keeps what the room holds in the end equal to what it holds with the steps still to come.
use mathlib.Core.Path.{refl}
use native.Mathlib.Omega.{arith}
use Rattle.sheet_writer.proofs.Laws.{steps_room, steps-narrow, steps_next, steps-count, steps-end}
use Rattle.sheet_writer.proofs.put_steps.Goals as goal

pub loop-given-init : goal.loop-given-init
loop-given-init c = (refl, omega arith)

pub put_step-at-requires : goal.put_step-at-requires
put_step-at-requires c = (search steps_room, search steps-narrow)

pub loop-given-preserved : goal.loop-given-preserved
loop-given-preserved c = (search steps_next, omega arith)

pub returns : goal.returns
returns c = record { bytes = search steps-end; end = search steps-count }
