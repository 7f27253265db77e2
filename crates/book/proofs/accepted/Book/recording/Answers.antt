-- `book::Book::recording` meets its contract.
use Rattle.book.proofs.Laws.{recording_room}
use Rattle.book.proofs.accepted.Book.recording.Goals as goal

pub recording_at-requires : goal.recording_at-requires
recording_at-requires c = search recording_room
