use mathlib.Core.Path.{◌≡◌}
use Prim.Native.Nat.{◌-◌, ◌≤◌}
use lib.ListN.{length}
use Rattle.sheet.specs.Sheet.{version_of, entries_refusal, head_size}
use Rattle.sheet.proofs.check_entries.Given as goal

abbrev pub invariant-loop-n : goal.invariant-loop-n
invariant-loop-n l = (entries_refusal (version_of l.s) l.s l.c 0 head_size l.q ≡ entries_refusal (version_of l.s) l.s l.c l.n l.at (l.q - l.n)) × (l.at ≤ length l.s)
