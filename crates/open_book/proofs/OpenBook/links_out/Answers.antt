-- `open_book::OpenBook::links_out` meets its contract.
use Rattle.std.proofs.Common.{rules}
use Rattle.open_book.proofs.Exits.{kept-below, kept_room, part-run, part_none}
use Rattle.open_book.proofs.OpenBook.links_out.Goals as goal

pub run_of-requires : goal.run_of-requires
run_of-requires c = (search kept-below, search rules, search rules, search kept_room)

pub returns-then-has_cell : goal.returns-then-has_cell
returns-then-has_cell c = search part-run

pub returns : goal.returns
returns c = search part_none
