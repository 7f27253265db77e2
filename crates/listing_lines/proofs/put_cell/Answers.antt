-- `listing_lines::put_cell` meets its contract.
use Rattle.std.proofs.Common.{sym, ◌∙◌}
use Rattle.listing_lines.proofs.Exits.{cell_answered, cell_written}
use Rattle.listing_lines.proofs.put_cell.Goals as goal

pub unwrap-row-requires : goal.unwrap-row-requires
unwrap-row-requires c = rw c.row.ensures (cell_answered _ _ _ c.requires.1)

pub returns : goal.returns
returns c = cell_written _ _ _ c.requires.1 _ (sym c.row.ensures ∙ c.unwrap-row.ensures) c.put_row-end.ensures
