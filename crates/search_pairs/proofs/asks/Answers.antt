use Rattle.search_pairs.proofs.Clashes.{asks_are}
use Rattle.search_pairs.proofs.asks.Goals as goal

pub returns : goal.returns
returns c = search asks_are
