-- `listing_text::put_accepted` meets its contract.
use Rattle.listing_text.proofs.Exits.{books_large, few_listed, books_listed}
use Rattle.listing_text.proofs.put_accepted.Goals as goal

pub returns-then-many_cells : goal.returns-then-many_cells
returns-then-many_cells c = search books_large

pub put_matched-requires : goal.put_matched-requires
put_matched-requires c =
    (few_listed _ _ _ _ c.args.left.accepted c.args.right.accepted c.requires.0 c.many_cells.ensures c.if-many_cells.false, c.requires.1, c.requires.2)

pub returns : goal.returns
returns c = search books_listed
