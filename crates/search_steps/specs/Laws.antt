-- The sets of nodes that the links of a set lead to, link by link, and the links of a path.
use Rattle.std.proofs.Math.Bool.{So}
use Rattle.std.specs.Prelude.{false, ◌≡◌, length, get_or}
use Rattle.std.proofs.Math.Path.{refl, ap}
use Rattle.std.proofs.Common.{sym, ◌∙◌, eq-or-lt_of_le, le_of_suc-le-suc}
use Rattle.std.proofs.Math.Logic.{⊎_elim}
use mathlib.Core.List.Memᴰ
use mathlib.Core.List.{List, [], ◌∷◌, ◌++◌, Memᴰ}
use Prim.Native.Nat.{ℕ, zero, suc, ◌+◌, ◌≤◌, ◌<◌}
use native.Mathlib.Omega.{arith}
use Rattle.theory.proofs.TestLaws.{never, any_iff, and_iff, test_eq}
use Rattle.theory.specs.Path.{Hop}
use Rattle.words.specs.Words.{bit, Inside}
use Rattle.words.specs.Laws.{bit-and, word_of_ext, bit-word_of}
use Rattle.search_links.specs.Hops.{View, start_of, label_of, to_of, total, hop_at, hops_from, hops_of, Opened}
use Rattle.search_links.specs.Sets.{among, reached, spread, image_of, seen_as}
use Rattle.search_links.specs.Laws.{among_iff, bit-reached, bit-spread, spread_low}
use Rattle.search_tables.specs.Tips.{Has, Covered}
use Rattle.search_steps.specs.declared.Part.{Part}
use Rattle.search_steps.specs.Paths.{Leaves, Trail, end_of, step_word, ends_over}
use Rattle.search_steps.specs.Tables.{Beyond, Moves, slot, last_place, Passed, Filled}

-- rows that agree on the nodes of a set have the same union there
pub spread_agrees : (f g : ℕ → ℕ) (w : ℕ) → ((x : ℕ) → x < 64 → So (bit w x) → f x ≡ g x) → spread f w ≡ spread g w
unfolding spread
spread_agrees f g w h =
    word_of_ext 64 _ _ (λ y l.
    test_eq _ _
    (λ e. let (x, m, (i, j)) = simp (any_iff, and_iff) at e in (any_iff 64 _).1 (x, m, (and_iff _ _).1 (i, rw (← h x m i) j)))
    (λ e. let (x, m, (i, j)) = simp (any_iff, and_iff) at e in (any_iff 64 _).1 (x, m, (and_iff _ _).1 (i, rw (h x m i) j))))

-- ---- of a set inside of another, what it leads to is inside of what the other leads to
-- the union of rows
pub spread_inside : (f : ℕ → ℕ) (w w' : ℕ) → Inside w w' → Inside (spread f w) (spread f w')
unfolding spread
spread_inside f w w' h = record {
  each = λ y e.
      let (l, (x, m, (i, j))) = simp (bit-word_of, and_iff, any_iff) at e in
      simp (bit-word_of, and_iff, any_iff) (l, (x, m, (h.each x i, j)));
}

-- a step
pub step_inside : (u : View) (z : List ℕ) (w w' a y : ℕ) → Inside w w' → Inside (step_word u z w a y) (step_word u z w' a y)
unfolding step_word
step_inside u z w w' a y h = record {
  each = λ i e. let (p, q) = simp (bit-and, and_iff) at e in simp (bit-and, and_iff) ((spread_inside _ w w' h).each i p, q);
}

-- a path
pub over_inside : (v u : View) (z : List ℕ) (p : List ℕ) (w w' : ℕ) → Inside w w' → Inside (ends_over v u z w p) (ends_over v u z w' p)
unfolding ends_over
over_inside v u z [] w w' h = h
over_inside v u z (k ∷ p) w w' h = over_inside v u z p _ _ (step_inside u z w w' (label_of v k) (to_of v k) h)

module _ (v : View) where
  -- the hops are those of the links
  pub hop_in : (k n l : ℕ) → k ≤ l → l < k + n → Memᴰ (hop_at v l) (hops_from v k n)
  unfolding hops_from
  hop_in k zero l h m = absurd (omega arith)
  hop_in k (suc n) l h m = ⊎_elim (λ q. Memᴰ.head (rw q)) (λ s. Memᴰ.tail (hop_in (suc k) n l s (omega arith))) (eq-or-lt_of_le h)

  pub hop-out : (k n : ℕ) (h : Hop) → Memᴰ h (hops_from v k n) → (l : ℕ) × (k ≤ l) × (l < k + n) × (h ≡ hop_at v l)
  unfolding hops_from
  hop-out k zero h m = absurd (Memᴰ.not-nil m)
  hop-out k (suc n) h m =
      ⊎_elim (λ q. (k, omega arith, omega arith, q)) (λ r. let (l, a, b, q) = hop-out (suc k) n h r in (l, omega arith, omega arith, q))
      (Memᴰ.cases_cons m)

  module _ (o : Opened v.starts v.to) (x k : ℕ) (low : x < 64) (l : Leaves v x k) where
    pub leaves_below : k < total v.starts
    leaves_below = omega (arith, l.until, o.within (x + 1) (omega arith))

    pub leaves_low : to_of v k < 64
    leaves_low = o.low k leaves_below

    -- a link out of a node of a set leads into the image
    pub image_in : (w : ℕ) → So (bit w x) → So (bit (image_of v w (label_of v k)) (to_of v k))
    image_in w i =
        bit-spread (λ y. reached (hops_of v y) (label_of v k)) w (to_of v k) leaves_low
        ∙ (any_iff 64 _).1 (x, low, (and_iff _ _).1 (i, bit-reached (hops_of v x) (label_of v k) (to_of v k) leaves_low ∙ found))
      where
        found : So (among (hops_of v x) (label_of v k) (to_of v k))
        found = (among_iff (hops_of v x) (label_of v k) (to_of v k)).1 (hop_in (start_of v x) _ k l.from (omega (arith, l.until)))

  -- and a node of the image is led to
  pub record Led (w a y : ℕ) : Type 0 where
    pub node : ℕ
    pub link : ℕ
    pub low : node < 64
    pub inside : So (bit w node)
    pub leaves : Leaves v node link
    pub label : label_of v link ≡ a
    pub to : to_of v link ≡ y

  pub image-out : (w a y : ℕ) → So (bit (image_of v w a) y) → Led w a y
  image-out w a y e =
      let l = spread_low (λ x. reached (hops_of v x) a) w y e in
      let (x, low, (i, j)) = simp (any_iff, and_iff) at (sym (bit-spread (λ x. reached (hops_of v x) a) w y l) ∙ e) in
      let (k, m, b, q) = hop-out (start_of v x) _ _ ((among_iff (hops_of v x) a y).0 (sym (bit-reached (hops_of v x) a y l) ∙ j)) in
      record { node = x; link = k; low = low; inside = i; leaves = record { from = m; until = omega arith }; label = sym (ap (λ (h : Hop). h.label) q); to = sym (ap (λ (h : Hop). h.to) q) }

-- the links of a path are among those that there are
pub trail_links : (v : View) → Opened v.starts v.to → (x : ℕ) (p : List ℕ) → x < 64 → Trail v x p → (i : ℕ) → i < length p
    → (get_or p i 0 < 512) × (to_of v (get_or p i 0) < 64)
unfolding Trail
trail_links v o x [] l t i m = absurd (omega arith)
trail_links v o x (k ∷ p) l (h, t) zero m = (omega (arith, leaves_below v o x k l h, o.few), leaves_low v o x k l h)
trail_links v o x (k ∷ p) l (h, t) (suc i) m = trail_links v o (to_of v k) p (leaves_low v o x k l h) t i (le_of_suc-le-suc m)

-- ---- paths one after the other
module _ (v u : View) (z : List ℕ) where
  pub trail_join : (x : ℕ) (p s : List ℕ) → Trail v x p → Trail v (end_of v x p) s → Trail v x (p ++ s)
  unfolding Trail end_of
  trail_join x [] s t r = r
  trail_join x (k ∷ p) s (t, q) r = (t, trail_join (to_of v k) p s q r)

  pub end_join : (x : ℕ) (p s : List ℕ) → end_of v x (p ++ s) ≡ end_of v (end_of v x p) s
  unfolding end_of
  end_join x [] s = refl
  end_join x (k ∷ p) s = end_join (to_of v k) p s

  pub over_join : (w : ℕ) (p s : List ℕ) → ends_over v u z w (p ++ s) ≡ ends_over v u z (ends_over v u z w p) s
  unfolding ends_over
  over_join w [] s = refl
  over_join w (k ∷ p) s = over_join (step_word u z w (label_of v k) (to_of v k)) p s

  -- a path of d + n links is one of d links and one of n
  pub record Split (x d n : ℕ) (p : List ℕ) : Type 0 where
    pub front : List ℕ
    pub back : List ℕ
    pub is : p ≡ front ++ back
    pub trail : Trail v x front
    pub onward : Trail v (end_of v x front) back
    pub long : length front ≡ d
    pub rest : length back ≡ n

  pub split : (x d n : ℕ) (p : List ℕ) → Trail v x p → length p ≡ d + n → Split x d n p
  unfolding Trail end_of
  split x zero n p t l = record { front = []; back = p; is = refl; trail = tt; onward = t; long = refl; rest = omega arith }
  split x (suc d) n [] t l = absurd (omega arith)
  split x (suc d) n (k ∷ p) (t, r) l =
      let s = split (to_of v k) d n p r (omega arith) in
      record { front = k ∷ s.front; back = s.back; is = ap (λ (q : List ℕ). k ∷ q) s.is; trail = (t, s.trail); onward = s.onward; long = ap suc s.long; rest = s.rest }

-- ---- a table that is filled from nothing with tips as they are
module _ (v u : View) (z own ends ls rs : List ℕ) (first n at : ℕ) (ls₀ rs₀ ls' rs' : List ℕ) (p : Part) (f : Filled v u z own ends false ls rs first n at ls₀ rs₀ 0 0 ls' rs' p) where
  -- has tips one link beyond
  pub part_sound : (y o : ℕ) → Has ls' rs' p.count y o → Beyond v u z ls rs n y o
  unfolding seen_as
  part_sound y o h =
      ⊎_elim (λ g. absurd (omega (arith, g.below))) (λ (x, w, b, t, e). rw e at (⊎_elim (λ q. rw q at b) (λ (q, _). never q) t)) (f.sound y o h)

  -- and covers those passed
  pub part_whole : (e x k : ℕ) → Moves v ls first n e x k → at ≤ slot e (label_of v k) → Passed (slot e (label_of v k)) p.next
      → Covered ls' rs' p.count (to_of v k) (step_word u z (get_or rs e 0) (label_of v k) (to_of v k))
  unfolding seen_as
  part_whole = f.whole

  pub part_further : at < last_place → at < p.next
  part_further = f.further refl
