-- `search_cover::cut_links` meets its contract. The invariant: the tips by the links passed are covered.
use mathlib.Core.Path.{refl}
use Rattle.search_cover.proofs.Levels.{passed-next, passed-end}
use Rattle.search_cover.proofs.cut_links.Goals as goal

pub loop-k-preserved : goal.loop-k-preserved
loop-k-preserved c = (
  c.image_by-image.ensures,
  passed-next _ _ _ _ _ _ _ _ _ _ c.loop-k.invariant.1 _ _ _ _ c.label-next.ensures c.target-y.ensures c.image_by-image.ensures c.meet-o.ensures _ _ c.cut.ensures,
)

pub returns : goal.returns
returns c = passed-end _ _ _ _ _ _ _ _ _ _ c.loop-k.invariant.1 _ refl c.loop-k-test.false
