use mathlib.Core.Path.{◌≡◌}
use Prim.Native.Nat.{◌-◌}
use lib.ListN.{get_or}
use Rattle.search_links.specs.Sets.{meets}
use Rattle.search_links.proofs.leads.Given as goal

abbrev pub invariant-loop-k : goal.invariant-loop-k
invariant-loop-k l = meets l.to l.w (get_or l.starts l.x 0) (l.until - get_or l.starts l.x 0) ≡ meets l.to l.w l.k (l.until - l.k)
