-- Tables that cover the tips of all paths of at most k links: what each turn and each way out show.
use mathlib.Core.Bool.{Bool, true, So, not}
use mathlib.Core.Path.{◌≡◌, refl, sym, ap, ◌∙◌}
use mathlib.Core.Logic.{◌⊎◌, inl, inr, ⊎_elim}
use mathlib.Core.List.{List, [], ◌∷◌}
use Prim.Native.Nat.{ℕ, zero, suc, ◌+◌, ◌^◌, ◌≤◌, ◌<◌}
use native.Mathlib.Nat.{eq-or-lt_of_le}
use native.Mathlib.Omega.{arith}
use borrow.Author.Tests.{eqb-true, eq-eqb, not-true}
use lib.Bits.{bit_and}
use lib.ListN.{length, get_or, set, length-set, replicate, get_or-replicate}
use lib.Seq.{get_or-set_same, get_or-set_other}
use Rattle.theory.proofs.TestLaws.{never, and_iff}
use Rattle.words.specs.Words.{bit, Inside}
use Rattle.words.specs.Laws.{bit-zero, bit-pow, bit-and}
use Rattle.search_links.specs.Hops.{View, start_of, label_of, to_of}
use Rattle.search_links.specs.Sets.{image_of}
use Rattle.search_tables.specs.Tips.{Has, Covered}
use Rattle.search_tables.specs.Laws.{equal_or, inside_refl, covered_by_has, covered_wider, covered_trans}
use Rattle.search_steps.specs.Paths.{Leaves, Trail, end_of, step_word, ends_over}
use Rattle.search_steps.specs.Laws.{step_inside}
use Rattle.search_pairs.specs.Pairs.{fault, failure, alone}
use Rattle.search_pairs.specs.Laws.{fault_inside}
use Rattle.search_pairs.specs.Tails.{Met}
use Rattle.search_cover.specs.Covering.{Celled, Cut, BeyondTip, BeyondCells, NoneFails}

-- ---- the last link of a path
module _ (v u : View) (z : List ℕ) where
  -- a path of k + 1 links is one of k links and a link
  record Last (x w k : ℕ) (p : List ℕ) : Type 0 where
    front : List ℕ
    link : ℕ
    trail : Trail v x front
    long : length front ≡ k
    leaves : Leaves v (end_of v x front) link
    end : end_of v x p ≡ to_of v link
    word : ends_over v u z w p ≡ step_word u z (ends_over v u z w front) (label_of v link) (to_of v link)

  last : (x w k : ℕ) (p : List ℕ) → Trail v x p → length p ≡ suc k → Last x w k p
  unfolding Trail end_of ends_over
  last x w k [] t l = absurd (omega arith)
  last x w zero (j ∷ []) (t, _) l = record { front = []; link = j; trail = tt; long = refl; leaves = t; end = refl; word = refl }
  last x w (suc k) (j ∷ []) t l = absurd (omega arith)
  last x w zero (j ∷ i ∷ p) t l = absurd (omega arith)
  last x w (suc k) (j ∷ i ∷ p) (t, r) l =
      let h = last (to_of v j) (step_word u z w (label_of v j) (to_of v j)) k (i ∷ p) r (omega arith) in
      record {
        front = j ∷ h.front;
        link = h.link;
        trail = (t, h.trail);
        long = ap suc h.long;
        leaves = h.leaves;
        end = h.end;
        word = h.word;
      }

-- ---- tables with one class a cell
pub celled_none : (ls rs : List ℕ) → ls ≡ replicate 64 0 → rs ≡ replicate 64 0 → Celled ls rs
celled_none ls rs dl dr = record {
  left = ap length dl;
  right = ap length dr;
  only = λ e x l i. never (sym (bit-zero x) ∙ ap (λ (w : ℕ). bit w x) (sym (zeros e l)) ∙ i);
}
  where
    zeros : (e : ℕ) → e < 64 → get_or ls e 0 ≡ 0
    zeros e l = rw dl (get_or-replicate 64 e 0 0 (omega arith))

-- the tip (y, s) is put in class y: s is inside o, and inside the set that was there, if there was one
module _ (ls rs : List ℕ) (y o l s : ℕ) (h : Celled ls rs) (low : y < 64) (dl : l ≡ 2 ^ y) (i : Inside s o) (j : (get_or ls y 0 ≡ 0) ⊎ Inside s (get_or rs y 0)) where
  own_left : get_or (set ls y l) y 0 ≡ 2 ^ y
  own_left = get_or-set_same ls y l 0 (omega (arith, h.left)) ∙ dl

  own_has : Has (set ls y l) (set rs y s) 64 y s
  own_has = record {
    class = y;
    below = low;
    cell = low;
    inside = ap (λ (w : ℕ). bit w y) own_left ∙ bit-pow y y ∙ eq-eqb y y refl;
    word = get_or-set_same rs y s 0 (omega (arith, h.right));
  }

  cut_celled : Celled (set ls y l) (set rs y s)
  cut_celled = record {
    left = length-set ls y l ∙ h.left;
    right = length-set rs y s ∙ h.right;
    only = λ e x m b. ⊎_elim
        (λ q. sym (eqb-true y x (sym (bit-pow y x) ∙ ap (λ (w : ℕ). bit w x) (sym own_left) ∙ rw q at b)) ∙ sym q)
        (λ q. h.only e x m (rw (get_or-set_other ls y e l 0 q) at b))
        (equal_or e y);
  }

  cut_kept : (x w : ℕ) → Has ls rs 64 x w → Covered (set ls y l) (set rs y s) 64 x w
  cut_kept x w g =
      ⊎_elim
      (λ q.
      let d : x ≡ y = h.only g.class x g.below g.inside ∙ q in
      ⊎_elim
      (λ z. never (sym (bit-zero x) ∙ ap (λ (w : ℕ). bit w x) (sym z) ∙ rw q at g.inside))
      (λ k. rw d (record { word = s; has = own_has; inside = rw (← g.word, q) k }))
      j)
      (λ q. covered_by_has _ _ _ x w (record {
        class = g.class;
        below = g.below;
        cell = g.cell;
        inside = rw (get_or-set_other ls y g.class l 0 q) g.inside;
        word = get_or-set_other rs y g.class s 0 q ∙ g.word;
      }))
      (equal_or g.class y)

  cut_shown : Cut ls rs y o (set ls y l) (set rs y s)
  cut_shown = record { celled = cut_celled; kept = cut_kept; new = record { word = s; has = own_has; inside = i } }

module _ (ls rs : List ℕ) (y o l : ℕ) (h : Celled ls rs) (low : y < 64) (dl : l ≡ 2 ^ y) where
  pub cut_first : get_or ls y 0 ≡ 0 → Cut ls rs y o (set ls y l) (set rs y o)
  cut_first z = cut_shown ls rs y o l o h low dl (inside_refl o) (inl z)

  pub cut_again : (s : ℕ) → s ≡ bit_and (get_or rs y 0) o → Cut ls rs y o (set ls y l) (set rs y s)
  cut_again s ds = cut_shown ls rs y o l s h low dl (part (λ k a b. b)) (inr (part (λ k a b. a)))
    where
      part : {w : ℕ} → ((i : ℕ) → So (bit (get_or rs y 0) i) → So (bit o i) → So (bit w i)) → Inside s w
      part f = record { each = λ i b. let (p, q) = (and_iff _ _).0 (sym (bit-and (get_or rs y 0) o i) ∙ ap (λ (w : ℕ). bit w i) (sym ds) ∙ b) in f i p q }

-- ---- the links out of a node: the tips by those passed are covered
pub record Passed (v u : View) (z : List ℕ) (x w : ℕ) (ls rs ls' rs' : List ℕ) (k : ℕ) : Type 0 where
  pub celled : Celled ls' rs'
  pub kept : (a o : ℕ) → Has ls rs 64 a o → Covered ls' rs' 64 a o
  pub whole : (j : ℕ) → Leaves v x j → j < k → Covered ls' rs' 64 (to_of v j) (step_word u z w (label_of v j) (to_of v j))

module _ (v u : View) (z : List ℕ) (x w : ℕ) (ls rs : List ℕ) where
  module _ (ls' rs' : List ℕ) (k : ℕ) (h : Passed v u z x w ls rs ls' rs' k) where
    pub passed-next : (a y n o : ℕ) → a ≡ label_of v k → y ≡ to_of v k → n ≡ image_of u w a → o ≡ bit_and n (get_or z y 0) → (ls'' rs'' : List ℕ) → Cut ls' rs' y o ls'' rs''
        → Passed v u z x w ls rs ls'' rs'' (k + 1)
    unfolding step_word
    passed-next a y n o da dy e d ls'' rs'' c = record {
      celled = c.celled;
      kept = λ a e g. on (h.kept a e g);
      whole = λ j l m. ⊎_elim (λ q. rw q (rw (d, e, da, dy) at c.new)) (λ s. on (h.whole j l s)) (eq-or-lt_of_le (at_most k j m));
    }
      where
        at_most : (n j : ℕ) → j < n + 1 → j ≤ n
        at_most n j m = omega arith

        on : {a e : ℕ} → Covered ls' rs' 64 a e → Covered ls'' rs'' 64 a e
        on = covered_trans ls' rs' 64 ls'' rs'' 64 c.kept _ _

    pub passed-end : (e : ℕ) → e ≡ start_of v (x + 1) → e ≤ k → BeyondTip v u z x w ls rs ls' rs'
    passed-end e d l = record { celled = h.celled; kept = h.kept; whole = λ j i. h.whole j i (omega (arith, i.until)) }

-- ---- the cells of a table: the tips beyond those of the classes passed are covered
module _ (v u : View) (z l r ls rs : List ℕ) where
  module _ (n : ℕ) (ls' rs' : List ℕ) (h : BeyondCells v u z l r n ls rs ls' rs') (c : Celled l r) (low : n < 64) where
    -- a tip of one class more is of that class or was passed
    split : (a o : ℕ) → Has l r (n + 1) a o → ((a ≡ n) × (get_or r n 0 ≡ o) × So (bit (get_or l n 0) n)) ⊎ Has l r n a o
    split a o g =
        ⊎_elim
        (λ q. let d : a ≡ n = c.only g.class a (omega (arith, g.below)) g.inside ∙ q in inl (d, rw q at g.word, rw (q, d) at g.inside))
        (λ s. inr (record { class = g.class; below = s; cell = g.cell; inside = g.inside; word = g.word }))
        (eq-or-lt_of_le (at_most n g.class g.below))
      where
        at_most : (n j : ℕ) → j < n + 1 → j ≤ n
        at_most n j m = omega arith

    pub onward_skip : get_or l n 0 ≡ 0 → BeyondCells v u z l r (n + 1) ls rs ls' rs'
    onward_skip e = record {
      celled = h.celled;
      kept = h.kept;
      whole = λ a o k g t. ⊎_elim
          (λ (_, _, i). never (sym (bit-zero n) ∙ ap (λ (w : ℕ). bit w n) (sym e) ∙ i))
          (λ g. h.whole a o k g t)
          (split a o g);
    }

    pub onward-next : (ls'' rs'' : List ℕ) → BeyondTip v u z n (get_or r n 0) ls' rs' ls'' rs'' → BeyondCells v u z l r (n + 1) ls rs ls'' rs''
    onward-next ls'' rs'' b = record {
      celled = b.celled;
      kept = λ a o g. on (h.kept a o g);
      whole = λ a o k g t. ⊎_elim (λ (d, e, _). rw (← e) (b.whole k (rw d at t))) (λ g. on (h.whole a o k g t)) (split a o g);
    }
      where
        on : {a e : ℕ} → Covered ls' rs' 64 a e → Covered ls'' rs'' 64 a e
        on = covered_trans ls' rs' 64 ls'' rs'' 64 b.kept _ _

-- The table covers the tips of all paths of at most k links from x.
pub record Reached (v u : View) (z : List ℕ) (x y k : ℕ) (ls rs : List ℕ) : Type 0 where
  pub celled : Celled ls rs
  pub each : (p : List ℕ) → Trail v x p → length p ≤ k → Covered ls rs 64 (end_of v x p) (ends_over v u z (2 ^ y) p)

module _ (v u : View) (z : List ℕ) (x y : ℕ) where
  -- a table that covers the tip (x, {y}) covers that of the path with no links
  pub reached_start : (ls rs : List ℕ) (b : ℕ) → b ≡ 2 ^ y → (ls' rs' : List ℕ) → Cut ls rs x b ls' rs' → Reached v u z x y 0 ls' rs'
  unfolding end_of ends_over
  reached_start ls rs b d ls' rs' c = record { celled = c.celled; each = λ p t l. none p l }
    where
      none : (p : List ℕ) → length p ≤ 0 → Covered ls' rs' 64 (end_of v x p) (ends_over v u z (2 ^ y) p)
      none [] l = rw (← d) c.new
      none (j ∷ p) l = absurd (omega arith)

  module _ (k : ℕ) (ls rs : List ℕ) (h : Reached v u z x y k ls rs) where
    -- one that covers those of this one and all one link beyond them covers those of one link more
    pub reached-onward : (ls' rs' : List ℕ) → BeyondCells v u z ls rs 64 ls rs ls' rs' → Reached v u z x y (k + 1) ls' rs'
    reached-onward ls' rs' f = record {
      celled = f.celled;
      each = λ p t l. ⊎_elim (λ e. longer p t e) (λ s. covered_trans ls rs 64 _ _ _ f.kept _ _ (h.each p t (omega arith))) (eq-or-lt_of_le l);
    }
      where
        longer : (p : List ℕ) → Trail v x p → length p ≡ k + 1 → Covered ls' rs' 64 (end_of v x p) (ends_over v u z (2 ^ y) p)
        longer p t e = by (last v u z x (2 ^ y) k p t (omega arith))
          where
            -- a link beyond a tip that is covered
            on : (a w j : ℕ) → Covered ls rs 64 a w → Leaves v a j → Covered ls' rs' 64 (to_of v j) (step_word u z w (label_of v j) (to_of v j))
            on a w j g t = covered_wider _ _ _ _ _ _ (f.whole a g.word j g.has t) (step_inside u z g.word w (label_of v j) (to_of v j) g.inside)

            by : Last v u z x (2 ^ y) k p → Covered ls' rs' 64 (end_of v x p) (ends_over v u z (2 ^ y) p)
            by s = rw (s.end, s.word) (on _ _ s.link (h.each s.front s.trail (omega (arith, s.long))) s.leaves)

    -- where no two tips of the table fail, no two paths do
    pub reached_none : (c : ℕ) → c ≤ k → (ea eb : List ℕ) (f : Bool) → Met ea eb ls rs 64 ls rs 64 f → not f ≡ true → NoneFails v u z ea eb x y c
    unfolding failure alone fault
    reached_none c l ea eb f m e = record {
      each = λ p q tp lp tq lq.
          let a = h.each p tp (omega arith) in
          let b = h.each q tq (omega arith) in
          fault_inside ea eb _ _ _ _ _ _ a.inside b.inside (m.none (not-true _ e) _ _ _ _ a.has b.has);
    }
