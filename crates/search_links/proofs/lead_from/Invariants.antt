use Prim.Native.Nat.{◌≤◌}
use Rattle.search_links.specs.Hops.{lead}
use Rattle.search_links.proofs.lead_from.Given as goal

abbrev pub invariant-loop-at : goal.invariant-loop-at
invariant-loop-at l = l.at ≤ lead l.count l.from l.x
