-- `open_book::OpenBook::recording` meets its contract.
use Rattle.open_book.proofs.Exits.{recorded_room, recorded, recorded_none}
use Rattle.open_book.proofs.OpenBook.recording.Goals as goal

pub recording_at-requires : goal.recording_at-requires
recording_at-requires c = search recorded_room

pub returns-then-has_cell : goal.returns-then-has_cell
returns-then-has_cell c = search recorded

pub returns : goal.returns
returns c = search recorded_none
