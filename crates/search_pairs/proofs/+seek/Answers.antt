-- `search_pairs::seek` meets its contract. The invariant: the paths by a class and a label before a place are cleared.
use native.Mathlib.Omega.{arith}
use mathlib.Core.Path.{refl}
use Rattle.search_pairs.proofs.Loops.{turn_less, link_less, tips_searched, turn_searched, below_next, below_end, below_found}
use Rattle.search_pairs.proofs.+seek.Goals as goal

pub returns-then-turned : goal.returns-then-turned
returns-then-turned t c = tips_searched _ _ _ _ _ _ _ _ _ _ _ _ c.two_tips.ensures _ c.if-turned.true _ _ c.if-more-eq0.true (c.requires.3 c.if-turned.true)

pub seek-requires : goal.seek-requires
seek-requires t c =
    let s = c.requires.0 in
    (turn_less _ _ _ _ c.decreases c.if-turned.false, (record { left = s.left; right = s.right; own = s.own; other = s.other; firsts = s.seconds; seconds = s.firsts }, c.requires.2, omega arith, λ _. refl))

pub returns-then-more-eq0 : goal.returns-then-more-eq0
returns-then-more-eq0 t c = turn_searched _ _ _ _ _ _ _ _ _ _ _ _ _ c.seek.ensures _ c.if-turned.false _ c.if-more-eq0.true

pub seek-requires-in-loop-at : goal.seek-requires-in-loop-at
seek-requires-in-loop-at t c =
    let s = c.requires.0 in
    (link_less _ _ _ _ c.decreases c.if-more-eq0.false, (record { left = s.left; right = s.right; own = s.own; other = s.other; firsts = c.fill-part.ensures.room.few; seconds = s.seconds }, omega arith, c.requires.2, c.requires.3))

pub returns-then-seek : goal.returns-then-seek
returns-then-seek t c = below_found _ _ _ _ _ _ _ _ _ _ _ _ _ _ _ _ _ _ _ _ _ c.fill-part.ensures c.seek-in-loop-at.ensures c.if-seek.true c.if-more-eq0.false _ refl

pub loop-at-preserved : goal.loop-at-preserved
loop-at-preserved t c =
    record {
      few = c.fill-part.ensures.most;
      room = record { left = c.fill-part.ensures.room.left; right = c.fill-part.ensures.room.right; few = omega arith };
      below = below_next _ _ _ _ _ _ _ _ _ _ _ _ _ _ _ _ _ _ _ _ _ c.fill-part.ensures c.seek-in-loop-at.ensures c.if-seek.false c.loop-at.invariant.below;
    }

pub returns : goal.returns
returns t c = below_end _ _ _ _ _ _ _ _ _ _ _ _ _ _ _ c.if-more-eq0.false _ refl c.loop-at-test.false c.loop-at.invariant.few c.loop-at.invariant.below
