-- `listing_text::many_cells` meets its contract.
use Rattle.listing_text.proofs.Exits.{many_left, many_right}
use Rattle.listing_text.proofs.many_cells.Goals as goal

pub returns-then-cells-gt-MOST_CELLS : goal.returns-then-cells-gt-MOST_CELLS
returns-then-cells-gt-MOST_CELLS c = many_left _ _ _ c.cells.ensures.0 c.if-cells-gt-MOST_CELLS.true

pub returns-else-cells-gt-MOST_CELLS : goal.returns-else-cells-gt-MOST_CELLS
returns-else-cells-gt-MOST_CELLS c =
    many_right _ _ _ c.cells.ensures.0 _ c.if-cells-gt-MOST_CELLS.false c.cells-else-cells-gt-MOST_CELLS.ensures.0
