use Rattle.listing_lines.proofs.Exits.{Begun}
use Rattle.listing_lines.proofs.put_rows.Given as goal

abbrev pub invariant-loop-i : goal.invariant-loop-i
invariant-loop-i l = Begun l.initial.out l.at l.map l.n l.m l.out l.end l.matched l.i
