use mathlib.Core.Path.{◌≡◌}
use lib.ListN.{length}
use Rattle.sheet.specs.Sheet.{entry_start, most_entries}
use Rattle.sheet.specs.Known.{EntriesFit}
use Rattle.question_measure.specs.MeasureLaws.{Measured}
use Rattle.question_measure.proofs.Known.list.Given as goal

abbrev pub invariant-loop-k : goal.invariant-loop-k
invariant-loop-k l =
    record {
      fit : EntriesFit l.sheet.bytes.now l.upto most_entries;
      measured : Measured l.sheet.bytes.now l.k l.self.chains l.self.lengths;
      at : l.at ≡ entry_start l.sheet.bytes.now l.k;
      chains : length l.self.chains ≡ most_entries;
      lengths : length l.self.lengths ≡ most_entries;
    }
