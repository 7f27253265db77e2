use mathlib.Core.Path.{◌≡◌}
use Rattle.sheet.specs.Sheet.{entry_start}
use Rattle.sheet.proofs.accepted.Sheet.entry_start.Given as goal

abbrev pub invariant-loop : goal.invariant-loop
invariant-loop l = l.at ≡ entry_start l.self.bytes.now l.counter
