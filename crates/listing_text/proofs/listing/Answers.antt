-- `listing_text::listing` meets its contract.
use Rattle.listing_text.proofs.Exits.{listing_told}
use Rattle.listing_text.proofs.listing.Goals as goal

pub returns : goal.returns
returns c = search listing_told
