-- `search_cover::cut_cells` meets its contract. The invariant: the tips beyond those of the cells passed are covered.
use Rattle.search_cover.proofs.Levels.{onward-next, onward_skip}
use Rattle.search_cover.proofs.cut_cells.Goals.{then-level-e-ne0, else-level-e-ne0}
use Rattle.search_cover.proofs.cut_cells.Goals as goal

pub loop-x-preserved : goal.loop-x-preserved
loop-x-preserved c =
    elim c.if-level-e-ne0.branch [
      | then-level-e-ne0 w ↦ rw w.table-is (onward-next _ _ _ _ _ _ _ _ _ _ c.loop-x.invariant c.requires.0 c.loop-x-test.true _ _ w.cut_links.ensures)
      | else-level-e-ne0 w ↦ rw w.table-is (onward_skip _ _ _ _ _ _ _ _ _ _ c.loop-x.invariant c.requires.0 c.loop-x-test.true w.if-level-e-ne0.false)
    ]
