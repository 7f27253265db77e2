-- `compare::measured` meets its contract.
use Rattle.book.specs.AcceptedLaws.{book_long}
use Rattle.compare.proofs.Exits.{pairs_few, pairs_fit, map-length, few_room, few_scratch, all_lent, scratch_lent}
use Rattle.compare.proofs.measured.Goals as goal

pub returns-then-map-pairs : goal.returns-then-map-pairs
returns-then-map-pairs c = rw c.of.ensures (search map-length)

pub sheet_version-version-requires : goal.sheet_version-version-requires
sheet_version-version-requires c = (book_long _ c.args.left.accepted, book_long _ c.args.right.accepted)

pub room_needed-requires : goal.room_needed-requires
room_needed-requires c = pairs_few _ _ _ _ c.cells.ensures.0 c.cells-2.ensures.0 c.args.left.accepted c.args.right.accepted

pub returns-then-room-room_needed : goal.returns-then-room-room_needed
returns-then-room-room_needed c = rw c.of-then-room-room_needed.ensures (search few_room)

pub returns-then-scratch-pairs : goal.returns-then-scratch-pairs
returns-then-scratch-pairs c = rw c.of-then-scratch-pairs.ensures (search few_scratch)

pub served-requires : goal.served-requires
served-requires c =
    let given = c.requires in
    let n = c.cells.ensures.0 in
    let m = c.cells-2.ensures.0 in
    (all_lent _ _ _ _ n m c.args.left.accepted c.args.right.accepted _ _ given.0 given.1 _ _ _ _ c.sheet_version-version.ensures.version c.room_needed.ensures given.2 c.if-map-pairs.false c.if-room-room_needed.false, scratch_lent _ _ _ _ n m _ c.if-scratch-pairs.false)
