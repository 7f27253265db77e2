-- `search_pairs::first_path` meets its contract. The links to come fall.
use mathlib.Core.Path.{refl}
use Rattle.search_pairs.proofs.Loops.{path_stays, path_goes}
use Rattle.search_pairs.proofs.+first_path.Goals as goal

pub returns-then-more-eq0 : goal.returns-then-more-eq0
returns-then-more-eq0 t c = path_stays _ _ _ _ _ _ _ _ _ _ _ _ _ c.if-more-eq0.true c.requires.1 c.requires.5 _ refl refl c.no_links.ensures

pub returns : goal.returns
returns t c = path_goes _ _ _ _ _ _ _ _ _ _ _ _ _ _ c.if-more-eq0.false c.requires.2 c.next_link-k.ensures _ _ _ c.label.ensures c.target-y.ensures c.step-o.ensures _ c.first_path-t.ensures _ c.behind.ensures _ refl refl refl
