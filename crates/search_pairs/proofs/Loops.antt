-- The loops over the parts one link beyond a table, and over the links out of a node: what each turn and each way out shows.
use mathlib.Core.Bool.{Bool, true, false, cond}
use mathlib.Core.Path.{◌≡◌, refl, sym, ◌∙◌}
use mathlib.Core.Logic.{inl, inr, ⊎_elim}
use mathlib.Core.List.{List, [], ◌∷◌}
use Prim.Native.Nat.{ℕ, ◌+◌, ◌-◌, ◌^◌, ◌≤◌, ◌<◌}
use native.Mathlib.Nat.{pos_of_ne-zero, eq-or-lt_of_le}
use native.Mathlib.Omega.{arith}
use lib.ListN.{length, get_or, set}
use lib.Seq.{length-take-le}
use Rattle.theory.proofs.TestLaws.{never, le-or-lt}
use Rattle.words.specs.Words.{Inside}
use Rattle.search_links.specs.Hops.{View, start_of, label_of, to_of, Opened}
use Rattle.search_steps.specs.declared.Part.{Part}
use Rattle.search_steps.specs.Paths.{Leaves, Trail, end_of, step_word, ends_over}
use Rattle.search_tables.specs.Tips.{Has}
use Rattle.search_tables.specs.Laws.{inside_refl, one_has, one_only}
use Rattle.search_steps.specs.Tables.{Moves, slot, last_place, Passed, Filled}
use Rattle.search_steps.specs.Laws.{leaves_below, leaves_low, over_inside, part_sound, part_whole}
use Rattle.search_pairs.specs.declared.Route.{Route}
use Rattle.search_pairs.specs.declared.Tail.{Tail}
use Rattle.search_pairs.specs.Pairs.{fault, alone, failure, links_in, Before, Couple, Sought}
use Rattle.search_pairs.specs.Laws.{fault_inside}
use Rattle.search_pairs.specs.Tails.{no_links, Prepended, Met, fault_of, Hit, Safe, Hitting, Searched, Ahead, Barren, Told, Next, Foremost, StandsFor}

empty : (p : List ℕ) → length p ≡ 0 → p ≡ []
empty [] e = refl
empty (k ∷ p) e = absurd (omega arith)

-- ---- two tables
-- paths without links are tips; those of two tables, turned
pub tips_searched : (v u : View) (z ea eb pl pr : List ℕ) (pn : ℕ) (ql qr : List ℕ) (qn : ℕ) (f : Bool) → Met ea eb ql qr qn pl pr pn f
    → (turned : Bool) → turned ≡ true → (more rest : ℕ) → more ≡ 0 → rest ≡ 0 → Searched v u z ea eb turned pl pr pn more ql qr qn rest f
unfolding end_of ends_over Trail fault_of
tips_searched v u z ea eb pl pr pn ql qr qn f m turned dt more rest dm dr = rw (dt, dm, dr) (record {
  some = λ e.
      let c = m.some e in
      record {
        cell = c.cell';
        word = c.word';
        path = [];
        runs = record { has = c.second; trail = tt; long = refl };
        hit = record { cell = c.cell; word = c.word; path = []; runs = record { has = c.first; trail = tt; long = refl }; fails = c.fails };
      };
  none = λ e x w p a. record { each = λ y o q b. rw (empty p a.long, empty q b.long) (m.none e y o x w b.has a.has) };
})

-- the one goes no further, so the other does
pub turn_searched : (v u : View) (z ea eb pl pr : List ℕ) (pn : ℕ) (ql qr : List ℕ) (qn rest : ℕ) (f : Bool)
    → Searched v u z ea eb true ql qr qn rest pl pr pn 0 f → (turned : Bool) → turned ≡ false → (more : ℕ) → more ≡ 0
    → Searched v u z ea eb turned pl pr pn more ql qr qn rest f
unfolding fault_of
turn_searched v u z ea eb pl pr pn ql qr qn rest f h turned dt more dm = rw (dt, dm) (record {
  some = λ e.
      let c = h.some e in
      record {
        cell = c.hit.cell;
        word = c.hit.word;
        path = c.hit.path;
        runs = c.hit.runs;
        hit = record { cell = c.cell; word = c.word; path = c.path; runs = c.runs; fails = c.hit.fails };
      };
  none = λ e x w p a. record { each = λ y o q b. (h.none e y o q b).each x w p a };
})

-- the links to come, each twice, and one for the turn
unfoldable pub weight : ℕ → ℕ → Bool → ℕ
weight more rest turned = more + rest + (more + rest) + cond turned 0 1

pub turn_less : (more rest t : ℕ) (turned : Bool) → weight more rest turned ≡ t → turned ≡ false → weight rest 0 true < t
unfolding weight
turn_less more rest t true e d = never (sym d)
turn_less more rest t false e d = omega arith

pub link_less : (more rest t : ℕ) (turned : Bool) → weight more rest turned ≡ t → (more ≡ 0 → ⊥) → weight (more - 1) rest turned < t
unfolding weight
link_less more rest t turned e n = omega (arith, pos_of_ne-zero n)

module _ (v u : View) (z ea eb : List ℕ) (turned : Bool) (ql qr : List ℕ) (qn j : ℕ) where
  -- a tip with a wider set fails with no more
  safe_wider : (x w w' : ℕ) → Inside w w' → Safe v u z ea eb turned ql qr qn j x w → Safe v u z ea eb turned ql qr qn j x w'
  unfolding fault_of
  safe_wider x w w' k h = record { each = λ y o q a. by _ _ turned (h.each y o q a) }
    where
      by : (y o : ℕ) (b : Bool) → cond b (fault ea eb y o x w) (fault ea eb x w y o) ≡ 0 → cond b (fault ea eb y o x w') (fault ea eb x w' y o) ≡ 0
      by y o true e = fault_inside ea eb _ _ _ x w w' (inside_refl _) k e
      by y o false e = fault_inside ea eb x w w' _ _ _ k (inside_refl _) e

  -- ---- the loop over the parts one link further than a table
  module _ (pl pr : List ℕ) (pn : ℕ) where
    -- every path of d links more than one by a class and a label before a place is cleared
    pub record Below (d at : ℕ) : Type 0 where
      pub each : (e x k : ℕ) (s : List ℕ) → Moves v pl 0 pn e x k → Passed (slot e (label_of v k)) at → Trail v (to_of v k) s → length s ≡ d
          → Safe v u z ea eb turned ql qr qn j (end_of v (to_of v k) s) (ends_over v u z (step_word u z (get_or pr e 0) (label_of v k) (to_of v k)) s)

    pub below_start : (d : ℕ) → Below d 0
    below_start d = record { each = λ e x k s m l. absurd (⊎_elim (λ b. omega arith) (λ q. omega arith) l) }

    pub below_end : (at more : ℕ) → (more ≡ 0 → ⊥) → (f : Bool) → f ≡ false → last_place ≤ at → at ≤ last_place → Below (more - 1) at
        → Searched v u z ea eb turned pl pr pn more ql qr qn j f
    unfolding Trail end_of ends_over
    below_end at more pos f e l few b =
        record { some = λ t. never (sym e ∙ t); none = λ _ x w s h. go x w s h.has h.trail h.long }
      where
        go : (x w : ℕ) (s : List ℕ) → Has pl pr pn x w → Trail v x s → length s ≡ more → Safe v u z ea eb turned ql qr qn j (end_of v x s) (ends_over v u z w s)
        go x w [] h t q = absurd (pos (sym q))
        go x w (k ∷ s) h (t, r) q =
            let m : Moves v pl 0 pn h.class x k = record { least = omega arith; class = h.below; cell = h.cell; inside = h.inside; leaves = t } in
            rw (← h.word) (b.each h.class x k s m (inr (omega arith)) r (omega arith))

    module _ (at : ℕ) (ls₀ rs₀ ls rs : List ℕ) (p : Part) (f : Bool) (more : ℕ) (g : Filled v u z ea eb false pl pr 0 pn at ls₀ rs₀ 0 0 ls rs p)
        (h : Searched v u z ea eb turned ls rs p.count (more - 1) ql qr qn j f) where
      pub below_next : f ≡ false → Below (more - 1) at → Below (more - 1) p.next
      below_next q b = record {
        each = λ e x k s m l t d. ⊎_elim
            (λ o.
            let c = part_whole v u z ea eb pl pr 0 pn at ls₀ rs₀ ls rs p g e x k m o l in
            safe_wider _ _ _ (over_inside v u z s _ _ c.inside) (h.none q _ _ s (record { has = c.has; trail = t; long = d })))
            (λ o. b.each e x k s m (inl o) t d)
            (le-or-lt at (slot e (label_of v k)));
      }

      -- a path from a part, with the link to it before it, is one from the table
      pub below_found : f ≡ true → (more ≡ 0 → ⊥) → (r : Bool) → r ≡ true → Searched v u z ea eb turned pl pr pn more ql qr qn j r
      unfolding Trail end_of ends_over
      below_found q pos r d = record { some = λ _. by (h.some q); none = λ e. never (sym e ∙ d) }
        where
          by : Hitting v u z ea eb turned ls rs p.count (more - 1) ql qr qn j → Hitting v u z ea eb turned pl pr pn more ql qr qn j
          by c =
              let b = part_sound v u z ea eb pl pr 0 pn at ls₀ rs₀ ls rs p g _ _ c.runs.has in
              record {
                cell = b.cell;
                word = b.word;
                path = b.link ∷ c.path;
                runs = record {
                  has = b.has;
                  trail = (b.leads.leaves, rw b.leads.to c.runs.trail);
                  long = omega (arith, c.runs.long, pos_of_ne-zero pos);
                };
                hit = rw (b.leads.to, b.leads.word) c.hit;
              }

  -- ---- the table with the one tip (x, w)
  pub told_one : (ls rs : List ℕ) (x w a : ℕ) → a ≡ 2 ^ x → length ls ≡ 64 → length rs ≡ 64 → x < 64 → (d : ℕ) (f : Bool)
      → Searched v u z ea eb turned (set ls 0 a) (set rs 0 w) 1 d ql qr qn j f → Told v u z ea eb turned x w d ql qr qn j f
  told_one ls rs x w a da ll lr low d f h = record {
    some = λ e.
        let c = h.some e in
        let (dx, dw) = one_only ls rs x w a w da refl ll lr _ _ c.runs.has in
        record { path = c.path; trail = rw (← dx) c.runs.trail; long = c.runs.long; hit = rw (← dx, ← dw) c.hit };
    none = λ e. record { each = λ p t l. h.none e x w p (record { has = one_has ls rs x w a w da refl ll lr low; trail = t; long = l }) };
  }

  -- ---- the loop over the links out of x: from the tips of those before k no path goes on
  module _ (x w d : ℕ) where
    pub record LinksTo (k : ℕ) : Type 0 where
      pub each : (i : ℕ) → Leaves v x i → i < k → Barren v u z ea eb turned (to_of v i) (step_word u z w (label_of v i) (to_of v i)) d ql qr qn j

    -- such a path begins with a link
    pub ahead_leaves : Ahead v u z ea eb turned x w (d + 1) ql qr qn j → start_of v x < start_of v (x + 1)
    unfolding Trail
    ahead_leaves a = go a.path a.trail a.long
      where
        go : (p : List ℕ) → Trail v x p → length p ≡ d + 1 → start_of v x < start_of v (x + 1)
        go [] t l = absurd (omega arith)
        go (i ∷ p) (t, r) l = omega (arith, t.from, t.until)

    pub links_start : (k : ℕ) → k ≡ start_of v x → LinksTo k
    links_start k e = record { each = λ i l m. absurd (omega (arith, l.from)) }

    module _ (k : ℕ) (h : LinksTo k) (from : start_of v x ≤ k) (e : ℕ) (de : e ≡ start_of v (x + 1)) where
      module _ (a y o : ℕ) (da : a ≡ label_of v k) (dy : y ≡ to_of v k) (eo : o ≡ step_word u z w a y) (f : Bool) (t : Told v u z ea eb turned y o d ql qr qn j f) where
        pub links_next : f ≡ false → LinksTo (k + 1)
        links_next n = record {
          each = λ i l m. ⊎_elim (λ q. rw q (rw (eo, da, dy) at (t.none n))) (λ s. h.each i l s) (eq-or-lt_of_le (under i m));
        }
          where
            under : (i : ℕ) → i < k + 1 → i ≤ k
            under i m = omega arith

        pub links_found : f ≡ true → k + 1 < e → Next v u z ea eb turned x w d ql qr qn j k
        links_found n m = record { leaves = record { from = from; until = omega arith }; ahead = rw (eo, da, dy) at (t.some n); before = h.each }

      -- the last link is the one
      pub links_end : e ≤ k + 1 → Ahead v u z ea eb turned x w (d + 1) ql qr qn j → Next v u z ea eb turned x w d ql qr qn j k
      unfolding Trail end_of ends_over
      links_end m a = go a.path a.trail a.long a.hit
        where
          under : (i : ℕ) → i < e → i ≤ k
          under i l = omega arith

          go : (p : List ℕ) → Trail v x p → length p ≡ d + 1 → Hit v u z ea eb turned ql qr qn j (end_of v x p) (ends_over v u z w p)
              → Next v u z ea eb turned x w d ql qr qn j k
          go [] t l g = absurd (omega arith)
          go (i ∷ p) (t, r) l g =
              ⊎_elim
              (λ q.
              let a : Ahead v u z ea eb turned (to_of v i) (step_word u z w (label_of v i) (to_of v i)) d ql qr qn j =
              record { path = p; trail = r; long = omega arith; hit = g } in
              record { leaves = rw q at t; ahead = rw q at a; before = h.each })
              (λ s. absurd (g.fails (((h.each i t s).each p r (omega arith)).each _ _ _ g.runs)))
              (eq-or-lt_of_le (under i (rw de t.until)))

  -- ---- where the first link leads
  module _ (x w d k : ℕ) (n : Next v u z ea eb turned x w d ql qr qn j k) where
    pub next_ahead : (a y o : ℕ) → a ≡ label_of v k → y ≡ to_of v k → o ≡ step_word u z w a y → Ahead v u z ea eb turned y o d ql qr qn j
    next_ahead a y o da dy eo = rw (eo, da, dy) n.ahead

    module _ (o : Opened v.starts v.to) (low : x < 64) where
      pub next-below : k < 512
      next-below = omega (arith, leaves_below v o x k low n.leaves, o.few)

      pub next_low : (y : ℕ) → y ≡ to_of v k → y < 64
      next_low y dy = rw dy (leaves_low v o x k low n.leaves)

  pub ahead_less : (x w more : ℕ) → (more ≡ 0 → ⊥) → Ahead v u z ea eb turned x w more ql qr qn j → Ahead v u z ea eb turned x w (more - 1 + 1) ql qr qn j
  ahead_less x w more pos a = let e : more - 1 + 1 ≡ more = omega (arith, pos_of_ne-zero pos) in rw e a

  -- ---- the first path from a tip
  module _ (x w : ℕ) where
    pub path_stays : (more : ℕ) → more ≡ 0 → x < 64 → Ahead v u z ea eb turned x w more ql qr qn j → (r : Tail) → r.cell ≡ x → r.word ≡ w → r.path ≡ no_links
        → Foremost v u z ea eb turned x w more ql qr qn j r
    unfolding Trail end_of ends_over Before
    path_stays more dm low a r dx dw dp = rw (dx, dw, dp, dm) (record {
      shaped = record { long = refl; room = refl };
      trail = tt;
      cell = refl;
      word = refl;
      low = low;
      hit = rw (empty a.path (a.long ∙ dm)) at a.hit;
      before = λ p t l b. absurd (rw (empty p l) at b);
    })

    pub path_goes : (more k : ℕ) → (more ≡ 0 → ⊥) → more ≤ 4 → Next v u z ea eb turned x w (more - 1) ql qr qn j k
        → (a y o : ℕ) → a ≡ label_of v k → y ≡ to_of v k → o ≡ step_word u z w a y → (t : Tail) → Foremost v u z ea eb turned y o (more - 1) ql qr qn j t
        → (s : Route) → Prepended k t.path s → (r : Tail) → r.cell ≡ t.cell → r.word ≡ t.word → r.path ≡ s
        → Foremost v u z ea eb turned x w more ql qr qn j r
    unfolding Trail end_of ends_over Before
    path_goes more k pos few n a y o da dy eo t f s b r dx dw dp = rw (dx, dw, dp) (record {
      shaped = record { long = omega (arith, b.long, f.shaped.long, pos_of_ne-zero pos); room = b.room };
      trail = rw links (n.leaves, rw dy at f.trail);
      cell = rw links (rw dy at f.cell);
      word = rw links (rw (eo, da, dy) at f.word);
      low = f.low;
      hit = f.hit;
      before = λ p t l m. go p t l (rw links at m);
    })
      where
        links : links_in s ≡ k ∷ links_in t.path
        links = b.path f.shaped.room

        go : (p : List ℕ) → Trail v x p → length p ≡ more → Before p (k ∷ links_in t.path) → Safe v u z ea eb turned ql qr qn j (end_of v x p) (ends_over v u z w p)
        go [] h l m = absurd m
        go (i ∷ p) (h, h') l m =
            ⊎_elim
            (λ q. (n.before i h q).each p h' (omega arith))
            (λ (q, c). rw q (rw (eo, da, dy) at (f.before p (rw (q, ← dy) at h') (omega arith) c)))
            m

-- ---- two paths from the tip (x, {y})
pub ahead_at : (v u : View) (z ea eb : List ℕ) (x w w' d : ℕ) (ql qr : List ℕ) (qn j : ℕ) → w ≡ w' → Ahead v u z ea eb false x w d ql qr qn j
    → Ahead v u z ea eb false x w' d ql qr qn j
ahead_at v u z ea eb x w w' d ql qr qn j e a = rw (← e) a

-- the table with that tip stands for the paths from it
pub one_stands : (v u : View) (z ea eb ls rs : List ℕ) (x y a b : ℕ) → a ≡ 2 ^ x → b ≡ 2 ^ y → x < 64 → length ls ≡ 64 → length rs ≡ 64 → (i j : ℕ)
    → StandsFor v u z ea eb x y i j (set ls 0 a) (set rs 0 b) 1 j
unfolding failure alone fault fault_of
one_stands v u z ea eb ls rs x y a b da db low ll lr i j = record {
  some = λ p tp lp h.
      let (dx, dw) = one_only ls rs x (2 ^ y) a b da db ll lr _ _ h.runs.has in
      (h.path, rw dx at h.runs.trail, h.runs.long, rw (dx, dw) at h.fails);
  none = λ p tp lp h q tq lq. h.each x (2 ^ y) q (record { has = one_has ls rs x (2 ^ y) a b da db ll lr low; trail = tq; long = lq });
}

module _ (v u : View) (z ea eb : List ℕ) (x y i j : ℕ) (ql qr : List ℕ) (qn rest : ℕ) (stands : StandsFor v u z ea eb x y i j ql qr qn rest) where
  pub sought_none : (b : ℕ) → b ≡ 2 ^ y → (f : Bool) → f ≡ false → Told v u z ea eb false x b i ql qr qn rest f → (r : Couple) → r.kind ≡ 0 → Sought v u z ea eb x y i j r
  sought_none b db f e t r d = record {
    found = λ n. absurd (n d);
    none = λ _. record { each = λ p q tp lp tq lq. stands.none p tp lp (rw db at ((t.none e).each p tp lp)) q tq lq };
  }

  module _ (b : ℕ) (db : b ≡ 2 ^ y) (p : Tail) (f : Foremost v u z ea eb false x b i ql qr qn rest p) (ls rs : List ℕ) (ll : length ls ≡ 64) (lr : length rs ≡ 64)
      (a : ℕ) (da : a ≡ 2 ^ p.cell) (few : i ≤ 4) where
    long_path : length (links_in p.path) ≡ i
    long_path = length-take-le p.path.len p.path.links (omega (arith, f.shaped.long, f.shaped.room)) ∙ f.shaped.long

    here : Has (set ls 0 a) (set rs 0 p.word) 1 p.cell p.word
    here = one_has ls rs p.cell p.word a p.word da refl ll lr f.low

    hit_at : Hit v u z ea eb false ql qr qn rest (end_of v x (links_in p.path)) (ends_over v u z (2 ^ y) (links_in p.path))
    hit_at = rw (f.cell, f.word, db) at f.hit

    fails_at : (q : List ℕ) → (failure v u z ea eb x y (links_in p.path) q ≡ 0 → ⊥) → fault ea eb p.cell p.word (end_of v x q) (ends_over v u z b q) ≡ 0 → ⊥
    unfolding failure alone fault
    fails_at q n = rw (f.cell, f.word, db) n

    -- the second path, with the first fixed
    pub second_ahead : Ahead v u z ea eb true x b j (set ls 0 a) (set rs 0 p.word) 1 0
    unfolding Trail end_of ends_over fault_of
    second_ahead =
        let (q, tq, lq, n) = stands.some (links_in p.path) f.trail long_path hit_at in
        record {
          path = q;
          trail = tq;
          long = lq;
          hit = record { cell = p.cell; word = p.word; path = []; runs = record { has = here; trail = tt; long = refl }; fails = fails_at q n };
        }

    module _ (q : Tail) (g : Foremost v u z ea eb true x b j (set ls 0 a) (set rs 0 p.word) 1 0 q) (k : ℕ) (dk : k ≡ fault ea eb p.cell p.word q.cell q.word) where
      pub fails_so : fault ea eb p.cell p.word q.cell q.word ≡ 0 → ⊥
      unfolding end_of ends_over fault_of
      fails_so =
          let (dx, dw) = one_only ls rs p.cell p.word a p.word da refl ll lr _ _ g.hit.runs.has in
          rw (empty g.hit.path g.hit.runs.long, dx, dw) at g.hit.fails

      pub sought_some : (r : Couple) → r.kind ≡ k → r.first ≡ p.path → r.second ≡ q.path → Sought v u z ea eb x y i j r
      unfolding Trail end_of ends_over failure alone fault fault_of
      sought_some r dr dp dq = rw (dr, dp, dq) (record {
        found = λ _. record {
          first = (f.shaped, f.trail);
          second = (g.shaped, g.trail);
          fails = dk ∙ rw (f.cell, f.word, g.cell, g.word, db);
          sooner = λ p' q' tp lp m tq lq. stands.none p' tp lp (rw db at (f.before p' tp lp m)) q' tq lq;
          next = λ q' t l m. rw (f.cell, f.word, db) at ((g.before q' t l m).each p.cell p.word [] (record { has = here; trail = tt; long = refl }));
        };
        none = λ e. absurd (fails_so (sym dk ∙ e));
      })
