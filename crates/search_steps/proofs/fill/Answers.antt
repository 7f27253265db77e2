-- `search_steps::fill` meets its contract. The invariant: the table covers the tips by the classes and labels passed.
use mathlib.Core.Path.{refl}
use Rattle.search_steps.proofs.Exits.{filling_start, filling_next, filling_full, filling_end}
use Rattle.search_steps.proofs.fill.Goals as goal

pub loop-label-init : goal.loop-label-init
loop-label-init c =
    record {
      rows = refl;
      filling = filling_start _ _ _ _ _ _ _ _ _ _ _ _ _ _ _ c.requires.0 _ c.union_of-here.ensures c.requires.2 c.requires.3 c.requires.1 _ _ _ refl c.next_label-label.ensures c.begin-from.ensures;
    }

pub returns-in-Err : goal.returns-in-Err
returns-in-Err c = filling_full _ _ _ _ _ _ _ _ _ _ _ _ _ _ _ c.requires.0 _ c.union_of-here.ensures _ _ _ _ _ c.loop-label.invariant.filling _ c.union_of-there.ensures _ _ _ _ refl c.put_rows-next.ensures.0 c.put_rows.ensures.0 c.loop-label-test.true _ _ _ c.in-Err.ensures c.args.a.now.ordered.opened refl _ refl refl

pub loop-label-preserved : goal.loop-label-preserved
loop-label-preserved c =
    record {
      rows = c.put_rows.ensures.0.long;
      filling = filling_next _ _ _ _ _ _ _ _ _ _ _ _ _ _ _ c.requires.0 _ c.union_of-here.ensures _ _ _ _ _ c.loop-label.invariant.filling _ c.union_of-there.ensures _ _ _ _ refl c.put_rows-next.ensures.0 c.put_rows.ensures.0 c.loop-label-test.true _ _ _ c.in-Ok.ensures c.args.a.now.ordered.opened refl _ c.put_rows-next.ensures.1;
    }

pub returns : goal.returns
returns c = filling_end _ _ _ _ _ _ _ _ _ _ _ _ _ _ _ c.requires.0 _ c.union_of-here.ensures _ _ _ _ _ c.loop-label.invariant.filling c.loop-label-test.false _ refl refl
