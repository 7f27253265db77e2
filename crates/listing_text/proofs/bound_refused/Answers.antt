-- `listing_text::bound_refused` meets its contract.
use Rattle.listing_text.proofs.Exits.{bound_absent, bound_there}
use Rattle.listing_text.proofs.bound_refused.Goals as goal

pub returns-then-is_empty : goal.returns-then-is_empty
returns-then-is_empty c = bound_absent _ _ c.is_empty.ensures c.if-is_empty.true

pub returns-else-is_empty : goal.returns-else-is_empty
returns-else-is_empty c = bound_there _ _ c.is_empty.ensures c.if-is_empty.false
