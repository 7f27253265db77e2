use mathlib.Core.Path.{◌≡◌}
use Prim.Native.Nat.{◌+◌, ◌-◌, ◌*◌}
use Rattle.sheet.specs.Entry.{tests}
use Rattle.sheet.specs.Sheet.{steps_at, numbers_refusal, step_width}
use Rattle.sheet.proofs.check_tests.Given as goal

abbrev pub invariant-loop-pair : goal.invariant-loop-pair
invariant-loop-pair l = (numbers_refusal l.n (tests (steps_at l.v l.s l.base l.count)) ≡ numbers_refusal l.n (tests (steps_at l.v l.s l.at (l.count - 2 * l._pair)))) × (l.at + step_width l.v * (l.count - 2 * l._pair) ≡ l.base + step_width l.v * l.count)
