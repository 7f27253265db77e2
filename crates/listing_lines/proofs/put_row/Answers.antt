-- `listing_lines::put_row` meets its contract.
use lib.Dec.{lit≤}
use Rattle.listing_lines.proofs.Exits.{three_written}
use Rattle.listing_lines.proofs.put_row.Goals as goal

pub returns : goal.returns
returns c =
    three_written c.put_labelled-end.ensures c.put_labelled-end-2.ensures c.put_ending.ensures (lit≤ tt)
