-- `book::links` meets its contract.
use Rattle.book.proofs.Laws.{part_long, part_end, part_bytes, part_refused}
use Rattle.book.proofs.links.Goals as goal

pub link_width-width-requires : goal.link_width-width-requires
link_width-width-requires c = search part_long

pub slice_bounds-result-end : goal.slice_bounds-result-end
slice_bounds-result-end c = search part_end

pub returns-in-Ok : goal.returns-in-Ok
returns-in-Ok c = search part_bytes

pub returns-in-Err : goal.returns-in-Err
returns-in-Err c = search part_refused
