-- `evaluate::named_word` meets its contract.
use Rattle.sheet.proofs.KnownLaws.{number_known}
use Rattle.evaluate.proofs.Laws.{read_at}
use Rattle.evaluate.proofs.named_word.Goals as goal

pub bounds-known-k : goal.bounds-known-k
bounds-known-k c = search number_known

pub returns : goal.returns
returns c = search read_at
