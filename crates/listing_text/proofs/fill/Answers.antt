-- `listing_text::fill` meets its contract.
use Rattle.listing_text.proofs.Filled.{map-answered, map-filled}
use Rattle.listing_text.proofs.fill.Goals as goal

pub unwrap-requires : goal.unwrap-requires
unwrap-requires c =
    map-answered _ _ _ c.requires.0 _ _ _ _ _ _ _ c.requires.1 c.large_buffer-room.ensures c.large_buffer-scratch.ensures c.compare.ensures

pub returns : goal.returns
returns c =
    map-filled _ _ _ c.requires.0 _ _ _ _ _ _ _ c.requires.1 c.large_buffer-room.ensures c.large_buffer-scratch.ensures c.requires.2 c.compare.ensures
