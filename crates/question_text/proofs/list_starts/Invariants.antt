use mathlib.Core.Path.{◌≡◌}
use Rattle.sheet.specs.Sheet.{entry_start}
use Rattle.question_measure.specs.Holds.{Holds}
use Rattle.question_text.proofs.list_starts.Given as goal

abbrev pub invariant-loop-start : goal.invariant-loop-start
invariant-loop-start l =
    record {
      places : Holds (entry_start l.sheet.bytes.now) l.start-index l.starts;
      at : l.at ≡ entry_start l.sheet.bytes.now l.start-index;
    }
