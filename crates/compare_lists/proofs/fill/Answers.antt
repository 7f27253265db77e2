-- `compare_lists::fill` meets its contract.
use Rattle.compare_lists.proofs.Exits.{long, map-asked, opened, filled}
use Rattle.compare_lists.proofs.fill.Goals as goal

pub sheet_version-version-requires : goal.sheet_version-version-requires
sheet_version-version-requires c = (long _ c.args.left.accepted, long _ c.args.right.accepted)

pub begin-pen-requires : goal.begin-pen-requires
begin-pen-requires c = map-asked c.args.left.accepted c.args.right.accepted c.requires _ c.cells-m.ensures.0

pub refine-requires : goal.refine-requires
refine-requires c = opened c.args.left.accepted c.args.right.accepted c.requires _ c.sheet_version-version.ensures.version c.cells-m.ensures.0 c.begin-pen.ensures c.sheet_version-version.ensures.bytes c.read.ensures c.read-2.ensures c.cells-n.ensures.0

pub returns : goal.returns
returns c = filled c.args.left.accepted c.args.right.accepted c.requires _ c.sheet_version-version.ensures.version c.cells-m.ensures.0 c.begin-pen.ensures c.sheet_version-version.ensures.bytes c.read.ensures c.read-2.ensures c.cells-n.ensures.0 c.refine.ensures
