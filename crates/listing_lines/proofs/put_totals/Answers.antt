-- `listing_lines::put_totals` meets its contract.
use lib.Dec.{lit≤}
use Rattle.listing_lines.proofs.Exits.{two-written}
use Rattle.listing_lines.proofs.put_totals.Goals as goal

pub returns : goal.returns
returns c = search (two-written, lit≤)
