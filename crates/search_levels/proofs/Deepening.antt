-- One level more: what it has, and that the levels below it stay.
use mathlib.Core.Bool.{Bool, true, false, cond}
use mathlib.Core.Path.{◌≡◌, refl, sym, ap, ◌∙◌}
use mathlib.Core.Logic.{⊎_elim}
use mathlib.Core.List.{List, ◌++◌}
use Prim.Native.Nat.{ℕ, ◌+◌, ◌-◌, ◌^◌, ◌≤◌, ◌<◌}
use native.Mathlib.Nat.{eq-or-lt_of_le, pos_of_ne-zero}
use native.Mathlib.Omega.{arith}
use lib.ListN.{length, set, length-set, length-append}
use lib.Seq.{get_or-set_same, get_or-set_other}
use Rattle.theory.proofs.TestLaws.{never, le-or-lt}
use Rattle.words.specs.Words.{Inside}
use Rattle.search_links.specs.Hops.{View}
use Rattle.search_links.specs.Sets.{seen_as}
use Rattle.search_tables.specs.declared.Grown.{Grown}
use Rattle.search_tables.specs.Tips.{Has, Covered, Untouched}
use Rattle.search_tables.specs.Laws.{equal_or, covered_wider, covered_trans, untouched_turn, untouched_has, untouched_covered}
use Rattle.search_steps.specs.Paths.{Trail, end_of, ends_over}
use Rattle.search_steps.specs.Laws.{over_inside, trail_join, end_join, over_join, Split, split}
use Rattle.search_levels.specs.declared.Levels.{Levels}
use Rattle.search_levels.specs.Depths.{Gathered, end_at, Laid, Tip, Cover, Level, Standing, Became, FirstOf}
use Rattle.search_levels.proofs.Gathering.{seen_inside}

module _ (v u : View) (z ea eb : List ℕ) (x y : ℕ) where
  -- a level in classes that are as they were
  level_still : (loose : Bool) (k base : ℕ) (ls rs ls' rs' : List ℕ) (n : ℕ) → n ≤ base → Untouched base ls rs ls' rs'
      → Level v u z ea eb x y loose k ls rs n → Level v u z ea eb x y loose k ls' rs' n
  level_still loose k base ls rs ls' rs' n l t h = record {
    sound = λ a o g. h.sound a o (untouched_has base ls' rs' ls rs (untouched_turn base ls rs ls' rs' t) n l a o g);
    whole = λ p tr len.
        let c = h.whole p tr len in
        record { wide = c.wide; only = c.only; covered = untouched_covered base ls rs ls' rs' t n l _ _ c.covered };
  }

  -- what is covered as it is, a table of which the tips may be widened covers too
  level_loose : (k : ℕ) (ls rs : List ℕ) (n : ℕ) → Level v u z ea eb x y false k ls rs n → Level v u z ea eb x y true k ls rs n
  level_loose k ls rs n h = record {
    sound = λ a o g. let t = h.sound a o g in record { path = t.path; trail = t.trail; long = t.long; wide = t.wide; only = λ _. refl; end = t.end; seen = t.seen };
    whole = λ p tr len. let c = h.whole p tr len in record { wide = c.wide; only = λ _. refl; covered = c.covered };
  }

  -- ---- the tips of the paths of `more` links from the last level with its tips as they are, put above the levels up to level k
  module _ (wide : Bool) (ls rs : List ℕ) (k e first m base : ℕ) (here : Level v u z ea eb x y false e ls rs m) (known : Level v u z ea eb x y wide k ls rs base)
      (lower : (f : ℕ) → f < first → (d : ℕ) × (d < e) × Level v u z ea eb x y false d ls rs first) (order : e ≤ k)
      (ls' rs' : List ℕ) (g : Grown) (q : Gathered v u z ea eb wide ls rs first m (k + 1 - e) ls rs base base ls' rs' g) (t : g.full ≡ false) where
    -- a tip of a path of at most d links, one after the other
    beyond : (d a o : ℕ) → Tip v u z ea eb x y false d a o → (s : List ℕ) → Trail v a s
        → (p : List ℕ) × Trail v x p × (length p ≤ d + length s) × (end_of v x p ≡ end_of v a s) × (ends_over v u z (2 ^ y) p ≡ ends_over v u z o s)
    unfolding seen_as
    beyond d a o c s tr =
        let exactly : ends_over v u z (2 ^ y) c.path ≡ o = plain c.wide c.only c.seen in
        let there : end_of v x c.path ≡ a = ⊎_elim (λ e. e) (λ (e, _). never (c.only e)) c.end in (
          c.path ++ s,
          trail_join v u z x c.path s c.trail (rw there tr),
          omega (arith, length-append c.path s, c.long),
          end_join v u z x c.path s ∙ rw there,
          over_join v u z (2 ^ y) c.path s ∙ rw exactly,
        )
      where
        plain : {w o : ℕ} (b : Bool) → (b ≡ true → false ≡ true) → seen_as eb b w ≡ o → w ≡ o
        plain true f e = never (f refl)
        plain false f e = e

    next-sound : (a o : ℕ) → Has ls' rs' g.count a o → Tip v u z ea eb x y wide (k + 1) a o
    next-sound a o h =
        ⊎_elim
        (λ i. let c = known.sound a o i in record { path = c.path; trail = c.trail; long = omega (arith, c.long); wide = c.wide; only = c.only; end = c.end; seen = c.seen })
        (λ c.
        let (p, tr, len, en, ov) = beyond e c.cell c.word (here.sound c.cell c.word c.has) c.path c.trail in
        record { path = p; trail = tr; long = omega (arith, c.long); wide = wide; only = λ i. i; end = rw en c.end; seen = ap (seen_as eb wide) ov ∙ c.seen })
        (q.sound a o h)

    -- what was covered still is
    later : {a o : ℕ} → Covered ls rs base a o → Covered ls' rs' g.count a o
    later = covered_trans ls rs base ls' rs' g.count q.kept _ _

    old : (p : List ℕ) → Trail v x p → length p ≤ k → Cover eb wide ls' rs' g.count (end_of v x p) (ends_over v u z (2 ^ y) p)
    old p tr len = let c = known.whole p tr len in record { wide = c.wide; only = c.only; covered = later c.covered }

    -- a path of `more` links from a tip with a set inside of w
    onward : (a w o : ℕ) → Inside o w → (i : Has ls rs m a o) → (s : List ℕ) → Trail v a s → length s ≡ k + 1 - e
        → Cover eb wide ls' rs' g.count (end_of v a s) (ends_over v u z w s)
    onward a w o i h s tr len = ⊎_elim last_level below (le-or-lt first h.class)
      where
        wider : Inside (ends_over v u z o s) (ends_over v u z w s)
        wider = over_inside v u z s o w i

        last_level : first ≤ h.class → Cover eb wide ls' rs' g.count (end_of v a s) (ends_over v u z w s)
        last_level l = record {
          wide = wide;
          only = λ b. b;
          covered = covered_wider _ _ _ _ _ _ (q.whole t a o s (record { has = h; least = l }) tr len) (seen_inside eb wide _ _ wider);
        }

        -- the tip is that of a shorter path, which goes on to one of at most k links
        below : h.class < first → Cover eb wide ls' rs' g.count (end_of v a s) (ends_over v u z w s)
        below l =
            let (d, ld, level) = lower h.class l in
            let (p, tp, lp, en, ov) = beyond d a o (level.sound a o (record { class = h.class; below = l; cell = h.cell; inside = h.inside; word = h.word })) s tr in
            let c = old p tp (omega arith) in
            record { wide = c.wide; only = c.only; covered = covered_wider _ _ _ _ _ _ (rw (en, ov) at c.covered) (seen_inside eb c.wide _ _ wider) }

    next_whole : (p : List ℕ) → Trail v x p → length p ≤ k + 1 → Cover eb wide ls' rs' g.count (end_of v x p) (ends_over v u z (2 ^ y) p)
    unfolding seen_as
    next_whole p tr len = ⊎_elim (λ i. longest (split v u z x e (k + 1 - e) p tr (omega arith))) (λ l. old p tr (omega arith)) (eq-or-lt_of_le len)
      where
        longest : Split v u z x e (k + 1 - e) p → Cover eb wide ls' rs' g.count (end_of v x p) (ends_over v u z (2 ^ y) p)
        longest s =
            let c = here.whole s.front s.trail (omega (arith, s.long)) in
            let i = onward (end_of v x s.front) (ends_over v u z (2 ^ y) s.front) c.covered.word (plain c.wide c.only c.covered.inside) c.covered.has s.back s.onward s.rest in
            rw (s.is, end_join v u z x s.front s.back, over_join v u z (2 ^ y) s.front s.back) i
          where
            plain : {w o : ℕ} (b : Bool) → (b ≡ true → false ≡ true) → Inside o (seen_as eb b w) → Inside o w
            plain true f e = never (f refl)
            plain false f e = e

    level_next : Level v u z ea eb x y wide (k + 1) ls' rs' g.count
    level_next = record { sound = next-sound; whole = next_whole }

-- ---- the levels as a whole
pub end_few : (ls rs : List ℕ) (t : Levels) → Laid ls rs t → (k : ℕ) → k ≤ t.known → (n : ℕ) → n ≡ end_at t k → n ≤ 64
end_few ls rs t l k m n d = omega (arith, l.rising k m, l.room.few)

module _ (v u : View) (z ea eb : List ℕ) (ls rs : List ℕ) (t : Levels) where
  pub became_same : Laid ls rs t → Became v u z ea eb ls rs t ls rs t
  became_same l = record { laid = l; onward = omega arith; told = refl; still = λ x y c s. s }

  pub became_trans : (ls' rs' : List ℕ) (t' : Levels) → Became v u z ea eb ls rs t ls' rs' t' → (ls'' rs'' : List ℕ) (t'' : Levels) → Became v u z ea eb ls' rs' t' ls'' rs'' t''
      → Became v u z ea eb ls rs t ls'' rs'' t''
  became_trans ls' rs' t' b ls'' rs'' t'' b' = record {
    laid = b'.laid;
    onward = omega (arith, b.onward, b'.onward);
    told = b'.told ∙ b.told;
    still = λ x y c s. b'.still x y c (b.still x y c s);
  }

  module _ (l : Laid ls rs t) (wide : Bool) (first : ℕ) (f : FirstOf t first) (ls' rs' : List ℕ) (g : Grown)
      (q : Gathered v u z ea eb wide ls rs first (end_at t t.exact) (t.known + 1 - t.exact) ls rs (end_at t t.known) (end_at t t.known) ls' rs' g) where
    -- the levels that there were
    stays : (x y : ℕ) (loose : Bool) (k : ℕ) → k ≤ t.known → Level v u z ea eb x y loose k ls rs (end_at t k) → Level v u z ea eb x y loose k ls' rs' (end_at t k)
    stays x y loose k m h = level_still v u z ea eb x y loose k (end_at t t.known) ls rs ls' rs' (end_at t k) (l.rising k m) q.low h

    -- there was no room for one more
    pub became_full : Became v u z ea eb ls rs t ls' rs' t
    became_full = record {
      laid = record {
        long = l.long;
        order = l.order;
        few = l.few;
        rising = l.rising;
        room = record { left = q.room.left; right = q.room.right; few = l.room.few };
      };
      onward = omega arith;
      told = refl;
      still = λ x y c s. record {
        exact = λ k m. stays x y false k (omega (arith, l.order)) (s.exact k m);
        each = λ k m. stays x y true k m (s.each k m);
        none = s.none;
      };
    }

    module _ (small : t.known < 4) (plain : wide ≡ false → t.exact ≡ t.known) (room : g.full ≡ false) (t' : Levels)
        (de : t'.ends ≡ set t.ends (t.known + 1) g.count) (dk : t'.known ≡ t.known + 1) (dx : t'.exact ≡ cond wide t.exact (t.known + 1)) (dn : t'.none ≡ t.none) where
      end_new : end_at t' (t.known + 1) ≡ g.count
      end_new = rw de (get_or-set_same t.ends (t.known + 1) g.count 0 (omega (arith, l.long)))

      end_old : (k : ℕ) → k ≤ t.known → end_at t' k ≡ end_at t k
      end_old k m = rw de (get_or-set_other t.ends (t.known + 1) k g.count 0 (λ e. omega arith))

      exact_most : t'.exact ≤ t.known + 1
      exact_most = rw dx (by wide)
        where
          by : (b : Bool) → cond b t.exact (t.known + 1) ≤ t.known + 1
          by true = omega (arith, l.order)
          by false = omega arith

      at_known : end_at t' t'.known ≡ g.count
      at_known = ap (end_at t') dk ∙ end_new

      rises : (k : ℕ) → k ≤ t.known + 1 → end_at t' k ≤ g.count
      rises k m = ⊎_elim (λ e. omega (arith, ap (end_at t') e, end_new)) (λ b. omega (arith, end_old k (omega arith), l.rising k (omega arith), q.least)) (eq-or-lt_of_le m)

      next_laid : Laid ls' rs' t'
      next_laid = record {
        long = rw de (length-set t.ends (t.known + 1) g.count ∙ l.long);
        order = rw dk exact_most;
        few = rw dk (omega arith);
        rising = λ k m. omega (arith, rises k (omega arith), at_known);
        room = rw at_known q.room;
      }

      module _ (x y c : ℕ) (s : Standing v u z ea eb x y c ls rs t) where
        top : Level v u z ea eb x y wide (t.known + 1) ls' rs' g.count
        top = level_next v u z ea eb x y wide ls rs t.known t.exact first (end_at t t.exact) (end_at t t.known) (s.exact t.exact (omega arith)) (known wide plain) lower l.order ls' rs' g q room
          where
            known : (b : Bool) → (b ≡ false → t.exact ≡ t.known) → Level v u z ea eb x y b t.known ls rs (end_at t t.known)
            known true h = s.each t.known (omega arith)
            known false h = s.exact t.known (omega (arith, h refl))

            lower : (i : ℕ) → i < first → (d : ℕ) × (d < t.exact) × Level v u z ea eb x y false d ls rs first
            lower i m = ⊎_elim
                (λ e. absurd (omega (arith, f.none e)))
                (λ n. (t.exact - 1, omega (arith, pos_of_ne-zero n), rw (f.some n) (s.exact (t.exact - 1) (omega arith))))
                (equal_or t.exact 0)

        at_top : (b : Bool) (k : ℕ) → k ≡ t.known + 1 → Level v u z ea eb x y b (t.known + 1) ls' rs' g.count → Level v u z ea eb x y b k ls' rs' (end_at t' k)
        at_top b k e h = let n : end_at t' k ≡ g.count = ap (end_at t') e ∙ end_new in rw (n, e) h

        next_standing : Standing v u z ea eb x y c ls' rs' t'
        next_standing = record {
          exact = λ k m. exactly wide (rw dx at m) top plain;
          each = λ k m. ⊎_elim (λ e. at_top true k e (loosely wide top)) (λ b. rw (end_old k (omega arith)) (stays x y true k (omega arith) (s.each k (omega arith)))) (eq-or-lt_of_le (rw dk at m));
          none = λ e. s.none (sym dn ∙ e);
        }
          where
            loosely : (b : Bool) → Level v u z ea eb x y b (t.known + 1) ls' rs' g.count → Level v u z ea eb x y true (t.known + 1) ls' rs' g.count
            loosely true h = h
            loosely false h = level_loose v u z ea eb x y (t.known + 1) ls' rs' g.count h

            kept : (k : ℕ) → k ≤ t.exact → Level v u z ea eb x y false k ls' rs' (end_at t' k)
            kept k m = rw (end_old k (omega (arith, l.order))) (stays x y false k (omega (arith, l.order)) (s.exact k m))

            exactly : {k : ℕ} (b : Bool) → k ≤ cond b t.exact (t.known + 1) → Level v u z ea eb x y b (t.known + 1) ls' rs' g.count → (b ≡ false → t.exact ≡ t.known)
                → Level v u z ea eb x y false k ls' rs' (end_at t' k)
            exactly {k} true m h p = kept k m
            exactly {k} false m h p = ⊎_elim (λ e. at_top false k e h) (λ b. kept k (omega (arith, p refl))) (eq-or-lt_of_le m)

      pub became_next : Became v u z ea eb ls rs t ls' rs' t'
      became_next = record { laid = next_laid; onward = omega arith; told = dn; still = λ x y c s. next_standing x y c s }
