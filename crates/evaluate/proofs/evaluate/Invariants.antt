use mathlib.Core.Path.{◌≡◌}
use Prim.Native.Nat.{◌-◌}
use lib.ListN.{length}
use Rattle.sheet.specs.Sheet.{entry_start}
use Rattle.evaluate.specs.Evaluation.{evaluated_from, evaluated}
use Rattle.evaluate.specs.GivenTables.{tables_of}
use Rattle.evaluate.proofs.evaluate.Given as goal

abbrev pub invariant-loop-k : goal.invariant-loop-k
invariant-loop-k l =
    (evaluated_from (tables_of l.every l.links l.rows) l.sheet.bytes.now l.k l.at (l.upto - l.k) l.known ≡ evaluated (tables_of l.every l.links l.rows) l.sheet.bytes.now l.upto l.initial.known)
    × (l.at ≡ entry_start l.sheet.bytes.now l.k) × (length l.known ≡ length l.initial.known)
