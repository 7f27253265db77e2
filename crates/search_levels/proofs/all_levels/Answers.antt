-- `search_levels::all_levels` meets its contract.
use Rattle.search_levels.proofs.Deciding.{quiet_laid, quiet_standing}
use Rattle.search_levels.proofs.all_levels.Goals as goal

pub returns-then-by_cells : goal.returns-then-by_cells
returns-then-by_cells c =
    let start = c.requires in
    let whole = c.reach-whole.ensures in
    (quiet_laid _ _ _ whole.laid _ c.quiet.ensures, quiet_standing _ _ _ _ _ _ _ _ _ _ _ (whole.still _ _ _ start.2) (c.by_cells.ensures c.if-by_cells.true) _ c.quiet.ensures)
