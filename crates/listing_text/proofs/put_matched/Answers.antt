-- `listing_text::put_matched` meets its contract.
use native.Mathlib.Omega.{arith}
use Rattle.listing_text.proofs.Filled.{map-sized, map-listed}
use Rattle.listing_text.proofs.put_matched.Goals as goal

pub put_pairs-requires : goal.put_pairs-requires
put_pairs-requires c = (omega arith, map-sized _ _ _ c.requires.0 _ _ c.cells-n.ensures.0 c.cells-m.ensures.0 _ c.fill.ensures)

pub returns : goal.returns
returns c = map-listed _ _ _ c.requires.0 _ _ c.cells-n.ensures.0 c.cells-m.ensures.0 _ c.fill.ensures c.put_pairs.ensures
