-- `evaluate::tested_word` meets its contract.
use Rattle.sheet.proofs.KnownLaws.{has-step, test_known}
use Rattle.evaluate.proofs.Laws.{read_at}
use Rattle.evaluate.proofs.tested_word.Goals as goal

pub test-k-requires : goal.test-k-requires
test-k-requires c = search has-step

pub bounds-known-k : goal.bounds-known-k
bounds-known-k c = search test_known

pub returns : goal.returns
returns c = search read_at
