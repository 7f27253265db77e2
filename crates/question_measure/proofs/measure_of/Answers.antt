-- `question_measure::measure_of` meets its contract.
use Rattle.sheet.proofs.KnownLaws.{entry_few}
use Rattle.question_measure.proofs.measure_of.Goals as goal

pub bounds-known-k : goal.bounds-known-k
bounds-known-k c = search entry_few

pub bounds-known-k-2 : goal.bounds-known-k-2
bounds-known-k-2 c = search entry_few
