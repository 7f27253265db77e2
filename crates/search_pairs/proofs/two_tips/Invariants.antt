use mathlib.Core.Bool.{false}
use mathlib.Core.Path.{◌≡◌}
use Rattle.search_pairs.proofs.Clashes.{Rows, Row}
use Rattle.search_pairs.proofs.two_tips.Given as goal

abbrev pub invariant-loop-j : goal.invariant-loop-j
invariant-loop-j l = record {
  none : l.found ≡ false;
  row : Row l.ea l.eb l.p.lefts l.p.rights l.q.lefts l.q.rights l.i l.j;
}

abbrev pub invariant-search : goal.invariant-search
invariant-search l = record {
  none : l.found ≡ false;
  rows : Rows l.ea l.eb l.p.lefts l.p.rights l.q.lefts l.q.rights l.qn l.i;
}
