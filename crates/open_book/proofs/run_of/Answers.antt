-- `open_book::run_of` meets its contract.
use Rattle.open_book.proofs.Exits.{run-rises, run_bytes}
use Rattle.open_book.proofs.run_of.Goals as goal

pub slice_bounds-result-count : goal.slice_bounds-result-count
slice_bounds-result-count c = search run-rises

pub slice_bounds-result-start : goal.slice_bounds-result-start
slice_bounds-result-start c = search run-rises

pub returns : goal.returns
returns c = search run_bytes
