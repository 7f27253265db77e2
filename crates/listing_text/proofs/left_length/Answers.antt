-- `listing_text::left_length` meets its contract.
use Rattle.listing_text.proofs.Exits.{left_short, left_least}
use Rattle.listing_text.proofs.left_length.Goals as goal

pub returns-then-all-lt4 : goal.returns-then-all-lt4
returns-then-all-lt4 c = search left_short

pub returns : goal.returns
returns c = left_least _ _ c.get.ensures.0 c.if-all-lt4.false _ c.min.ensures
