-- `open_book::OpenBook::has_cell` meets its contract.
use Rattle.open_book.proofs.Exits.{has_none, has_short, has_room}
use Rattle.open_book.proofs.OpenBook.has_cell.Goals as goal

pub returns-then-n-cell : goal.returns-then-n-cell
returns-then-n-cell c = search has_none

pub returns-then-self-lt8 : goal.returns-then-self-lt8
returns-then-self-lt8 c = search has_short

pub returns : goal.returns
returns c = search has_room
