use mathlib.Core.Path.{◌≡◌}
use Prim.Native.Nat.{◌+◌, ◌*◌}
use Rattle.sheet.specs.Sheet.{step_width}
use Rattle.sheet_writer.proofs.Laws.{Rest}
use Rattle.sheet_writer.proofs.put_steps.Given as goal

abbrev pub invariant-loop-given : goal.invariant-loop-given
invariant-loop-given l = Rest l.version l.initial.room l.base l.steps l.room l.at l.given-index × (l.at ≡ l.base + step_width l.version * l.given-index)
