-- `search_pairs::next_link` meets its contract. The invariant: no link before k leads on.
use mathlib.Core.Path.{◌≡◌, refl}
use Prim.Native.Nat.{◌+◌, ◌-◌}
use native.Mathlib.Omega.{arith}
use lib.ListN.{get_or}
use Rattle.search_pairs.proofs.Loops.{ahead_leaves, links_end}
use Rattle.search_pairs.proofs.next_link.Goals as goal

pub overflow_sub-last : goal.overflow_sub-last
overflow_sub-last c = omega (arith, ahead_leaves _ _ _ _ _ _ _ _ _ _ _ _ _ c.requires.5)

pub returns : goal.returns
returns c =
    let s = ahead_leaves _ _ _ _ _ _ _ _ _ _ _ _ _ c.requires.5 in
    let e : get_or c.args.a.now.starts (c.args.x + 1) 0 - 1 ≡ c.loop-k.k = omega (arith, s) in
    rw e (links_end _ _ _ _ _ _ _ _ _ _ _ _ _ _ c.loop-k.invariant c.loop-k.auto.k _ refl (omega arith) c.requires.5)
