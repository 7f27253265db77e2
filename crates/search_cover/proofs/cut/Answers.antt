-- `search_cover::cut` meets its contract.
use Rattle.search_cover.proofs.Levels.{cut_first, cut_again}
use Rattle.search_cover.proofs.cut.Goals as goal

pub returns-then-table-e-eq0 : goal.returns-then-table-e-eq0
returns-then-table-e-eq0 c = search cut_first

pub returns : goal.returns
returns c = search cut_again
