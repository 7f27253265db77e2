-- What the levels decide. Two paths that fail, of fewest links in all, have tips in the table: were the tip of one of them covered by a tip of a shorter
-- path, that path would fail with the other one, with fewer links in all.
use mathlib.Core.Bool.{Bool, true, false, not}
use mathlib.Core.Path.{◌≡◌, refl, sym, ◌∙◌}
use mathlib.Core.Logic.{inl, ⊎_elim}
use mathlib.Core.List.{List, [], ◌∷◌}
use Prim.Native.Nat.{ℕ, ◌+◌, ◌^◌, ◌≤◌, ◌<◌}
use native.Mathlib.Omega.{arith}
use borrow.Author.Tests.{not-true}
use lib.ListN.{length}
use Rattle.theory.proofs.TestLaws.{le-or-lt}
use Rattle.search_links.specs.Hops.{View, to_of, Opened}
use Rattle.search_links.specs.Sets.{Valued, StandsIn, seen_as}
use Rattle.search_tables.specs.Tips.{Has}
use Rattle.search_tables.specs.Laws.{inside_refl}
use Rattle.search_steps.specs.Paths.{Trail, end_of, ends_over}
use Rattle.search_steps.specs.Laws.{leaves_low}
use Rattle.search_pairs.specs.Pairs.{fault, alone, failure, Couple, Sought}
use Rattle.search_pairs.specs.Laws.{fault_inside}
use Rattle.search_pairs.specs.ValueLaws.{fault_seen, fault_stands, fault-turned}
use Rattle.search_pairs.specs.Tails.{Met, fault_of, Ahead, StandsFor}
use Rattle.search_cover.specs.Covering.{NoneFails}
use Rattle.search_levels.specs.declared.Levels.{Levels}
use Rattle.search_levels.specs.Laws.{empty}
use Rattle.search_levels.specs.Depths.{end_at, Laid, Level, Standing, Settled, Judged, silenced}

-- a path ends at a node that words have room for
end_low : (v : View) → Opened v.starts v.to → (x : ℕ) (p : List ℕ) → x < 64 → Trail v x p → end_of v x p < 64
unfolding Trail end_of
end_low v o x [] l t = l
end_low v o x (k ∷ p) l (h, t) = end_low v o (to_of v k) p (leaves_low v o x k l h) t

module _ (v u : View) (z ea eb : List ℕ) (x y : ℕ) (vb : Valued eb) where
  -- what covers two tips fails where they do
  covers_fail : (k l : ℕ) (ls rs : List ℕ) (m n : ℕ) → Level v u z ea eb x y true k ls rs m → Level v u z ea eb x y true l ls rs n
      → ((e w e' w' : ℕ) → Has ls rs m e w → Has ls rs n e' w' → fault ea eb e w e' w' ≡ 0)
      → (p q : List ℕ) → Trail v x p → length p ≤ k → Trail v x q → length q ≤ l → failure v u z ea eb x y p q ≡ 0
  unfolding failure alone fault
  covers_fail k l ls rs m n hk hl f p q tp lp tq lq =
      let c = hk.whole p tp lp in
      let d = hl.whole q tq lq in
      sym (fault_seen eb vb ea (end_of v x p) (ends_over v u z (2 ^ y) p) (end_of v x q) (ends_over v u z (2 ^ y) q) c.wide d.wide)
      ∙ fault_inside ea eb _ _ _ _ _ _ c.covered.inside d.covered.inside (f _ _ _ _ c.covered.has d.covered.has)

-- ---- no two paths of at most c links
module _ (ea eb : List ℕ) (c : ℕ) (ls rs : List ℕ) (t : Levels) (l : Laid ls rs t) where
  pub judged_short : Judged ea eb c ls rs t t
  judged_short = record { laid = l; still = λ v u z x y _ s. s }

  pub judged_told : c ≤ t.known → (n : ℕ) → n ≡ end_at t c → (f : Bool) → Met ea eb ls rs n ls rs n f → (t' : Levels) → t'.ends ≡ t.ends → t'.known ≡ t.known
      → t'.exact ≡ t.exact → t'.none ≡ not f → Judged ea eb c ls rs t t'
  judged_told m n dn f h t' de dk dx df = record {
    laid = record {
      long = rw de l.long;
      order = rw (dk, dx) l.order;
      few = rw dk l.few;
      rising = λ k i. rw (de, dk) (l.rising k (rw dk at i));
      room = rw (de, dk) l.room;
    };
    still = λ v u z x y vb s. record {
      exact = λ k i. rw de (s.exact k (rw dx at i));
      each = λ k i. rw de (s.each k (rw dk at i));
      none = λ e. record {
        each = λ p q tp lp tq lq.
            let level : Level v u z ea eb x y true c ls rs n = rw dn (s.each c m) in
            covers_fail v u z ea eb x y vb c c ls rs n n level level (λ e' w e'' w'. h.none (not-true _ (sym df ∙ e)) e' w e'' w') p q tp lp tq lq;
      };
    };
  }

module _ (ls rs : List ℕ) (t : Levels) where
  pub quiet_laid : Laid ls rs t → (r : Levels) → r ≡ silenced t → Laid ls rs r
  unfolding silenced
  quiet_laid l r d = rw d (record { long = l.long; order = l.order; few = l.few; rising = l.rising; room = l.room })

  pub quiet_standing : (v u : View) (z ea eb : List ℕ) (x y c : ℕ) → Standing v u z ea eb x y c ls rs t → NoneFails v u z ea eb x y c → (r : Levels) → r ≡ silenced t
      → Standing v u z ea eb x y c ls rs r
  unfolding silenced
  quiet_standing v u z ea eb x y c s n r d = rw d (record { exact = s.exact; each = s.each; none = λ _. n })

-- ---- two paths of i and j links, where no two of fewer links in all fail
module _ (v u : View) (z ea eb : List ℕ) (x y c i j : ℕ) (o : Opened v.starts v.to) (low : x < 64) (va : Valued ea) (vb : Valued eb) (order : i ≤ j) (most : j ≤ c)
    (h : Settled v u z ea eb x y c (i + j)) (ls rs : List ℕ) (t : Levels) (s : Standing v u z ea eb x y c ls rs t) (reached : j ≤ t.known) where
  fewer : (p q : List ℕ) → Trail v x p → length p ≤ i → Trail v x q → length q ≤ j → length p + length q < i + j → failure v u z ea eb x y p q ≡ 0
  unfolding failure alone fault
  fewer p q tp lp tq lq m =
      ⊎_elim
      (λ a. (h.each (length p) (length q) a (omega arith) m).each p q tp refl tq refl)
      (λ a.
      fault-turned ea eb va vb _ _ _ _ (end_low v o x p low tp) (end_low v o x q low tq)
      ((h.each (length q) (length p) (omega arith) (omega arith) (omega arith)).each q p tq refl tp refl))
      (le-or-lt (length p) (length q))

  -- so two that fail have just these lengths
  lengths : (p q : List ℕ) → Trail v x p → length p ≤ i → Trail v x q → length q ≤ j → (failure v u z ea eb x y p q ≡ 0 → ⊥) → (length p ≡ i) × (length q ≡ j)
  lengths p q tp lp tq lq n =
      ⊎_elim (λ m. (omega arith, omega arith)) (λ m. absurd (n (fewer p q tp lp tq lq m))) (le-or-lt (i + j) (length p + length q))

  at_i : Level v u z ea eb x y true i ls rs (end_at t i)
  at_i = s.each i (omega arith)

  at_j : Level v u z ea eb x y true j ls rs (end_at t j)
  at_j = s.each j reached

  -- two tips of the levels fail by the kind of their paths
  tips_fail : (a b : Bool) (p q : List ℕ) → Trail v x p → Trail v x q → (e w e' w' : ℕ) → e < 64 → e' < 64
      → StandsIn ea a (end_of v x p) e → seen_as eb a (ends_over v u z (2 ^ y) p) ≡ w → StandsIn ea b (end_of v x q) e' → seen_as eb b (ends_over v u z (2 ^ y) q) ≡ w'
      → fault ea eb e w e' w' ≡ failure v u z ea eb x y p q
  unfolding failure alone fault
  tips_fail a b p q tp tq e w e' w' le le' de dw de' dw' =
      fault_stands ea eb va w w' a b (end_of v x p) e (end_of v x q) e' (end_low v o x p low tp) le (end_low v o x q low tq) le' de de'
      ∙ rw (← dw, ← dw') (fault_seen eb vb ea (end_of v x p) (ends_over v u z (2 ^ y) p) (end_of v x q) (ends_over v u z (2 ^ y) q) a b)

  -- a path as it is, and a tip of the levels
  path_fails : (p q : List ℕ) → Trail v x p → Trail v x q → (b : Bool) (e w : ℕ) → e < 64 → StandsIn ea b (end_of v x q) e → seen_as eb b (ends_over v u z (2 ^ y) q) ≡ w
      → fault ea eb (end_of v x p) (ends_over v u z (2 ^ y) p) e w ≡ failure v u z ea eb x y p q
  unfolding seen_as
  path_fails p q tp tq b e w le de dw = tips_fail false b p q tp tq _ _ e w (end_low v o x p low tp) le (inl refl) refl de dw

  pub level_stands : (n : ℕ) → n ≡ end_at t j → StandsFor v u z ea eb x y i j ls rs n 0
  unfolding Trail end_of ends_over fault_of
  level_stands n dn = rw dn (record {
    some = λ p tp lp k.
        let d : k.path ≡ [] = empty k.path k.runs.long in
        let a = at_j.sound k.cell k.word k.runs.has in
        let f : failure v u z ea eb x y p a.path ≡ 0 → ⊥ = λ e. (rw d at k.fails) (path_fails p a.path tp a.trail a.wide k.cell k.word k.runs.has.cell a.end a.seen ∙ e) in
        let (_, m) = lengths p a.path tp (omega arith) a.trail a.long f in
        (a.path, a.trail, m, f);
    none = λ p tp lp k q tq lq.
        let d = at_j.whole q tq (omega arith) in
        let g = k.each (end_of v x q) d.covered.word [] (record { has = d.covered.has; trail = tt; long = refl }) in
        sym (path_fails p q tp tq d.wide (end_of v x q) (seen_as eb d.wide (ends_over v u z (2 ^ y) q)) (end_low v o x q low tq) (inl refl) refl) ∙ fault_inside ea eb _ _ _ _ _ _ (inside_refl _) d.covered.inside g;
  })

  module _ (m n : ℕ) (dm : m ≡ end_at t i) (dn : n ≡ end_at t j) (f : Bool) (k : Met ea eb ls rs m ls rs n f) where
    pub level_ahead : f ≡ true → Ahead v u z ea eb false x (2 ^ y) i ls rs n 0
    unfolding Trail end_of ends_over fault_of
    level_ahead e =
        let a = k.some e in
        let b = at_i.sound a.cell a.word (rw dm at a.first) in
        let d = at_j.sound a.cell' a.word' (rw dn at a.second) in
        let g : failure v u z ea eb x y b.path d.path ≡ 0 → ⊥ =
        λ w. a.fails (tips_fail b.wide d.wide b.path d.path b.trail d.trail _ _ _ _ a.first.cell a.second.cell b.end b.seen d.end d.seen ∙ w) in
        let (li, _) = lengths b.path d.path b.trail b.long d.trail d.long g in
        record {
          path = b.path;
          trail = b.trail;
          long = li;
          hit = record {
            cell = a.cell';
            word = a.word';
            path = [];
            runs = record { has = a.second; trail = tt; long = refl };
            fails = λ w. g (sym (path_fails b.path d.path b.trail d.trail d.wide a.cell' a.word' a.second.cell d.end d.seen) ∙ w);
          };
        }

    pub level_none : f ≡ false → (r : Couple) → r.kind ≡ 0 → Sought v u z ea eb x y i j r
    level_none e r d = record {
      found = λ n. absurd (n d);
      none = λ _. record {
        each = λ p q tp lp tq lq.
            covers_fail v u z ea eb x y vb i j ls rs m n (rw dm at_i) (rw dn at_j) (λ e' w e'' w'. k.none e e' w e'' w') p q tp (omega arith) tq (omega arith);
      };
    }
