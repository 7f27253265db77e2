-- `book::read_link` meets its contract.
use Rattle.book.proofs.Laws.{head_long, head_few, from_room, label_room, to_room, link_read}
use Rattle.book.proofs.read_link.Goals as goal

pub link_place-at-requires : goal.link_place-at-requires
link_place-at-requires c = (search head_long, search head_few)

pub version_of-version-requires : goal.version_of-version-requires
version_of-version-requires c = search head_long

pub bounds-bytes-at : goal.bounds-bytes-at
bounds-bytes-at c = search from_room

pub get_label-label-requires : goal.get_label-label-requires
get_label-label-requires c = search label_room

pub bounds-bytes-at-2 : goal.bounds-bytes-at-2
bounds-bytes-at-2 c = search to_room

pub returns : goal.returns
returns c = search link_read
