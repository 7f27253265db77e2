-- `search_cover::by_cells` meets its contract. The invariant: the table covers the tips of all paths of at most k links.
use mathlib.Core.Path.{refl}
use Rattle.search_cover.proofs.Levels.{celled_none, reached_start, reached-onward, reached_none}
use Rattle.search_cover.proofs.by_cells.Goals as goal

pub cut-requires : goal.cut-requires
cut-requires c = (celled_none _ _ refl refl, c.requires.cell)

pub loop-k-init : goal.loop-k-init
loop-k-init c = search reached_start

pub loop-k-preserved : goal.loop-k-preserved
loop-k-preserved c = search reached-onward

pub returns : goal.returns
returns c = λ e. reached_none _ _ _ _ _ _ _ _ c.loop-k.invariant _ c.loop-k-test.false _ _ _ c.two_tips.ensures e
