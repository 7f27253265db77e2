-- Laws of the reason that comes first: it is one (`chosen_fails`), two paths come only where no link fails (`chosen_links`), none has fewer links in
-- all (`chosen_fewest`), and there is none exactly where the clauses hold (`chosen_none`).
use Rattle.std.specs.Prelude.{Bool, ◌&&◌, ◌↔◌, ◌⊎◌}
use Rattle.std.proofs.Math.Bool.{true, false, So, not, false≢true}
use Rattle.std.proofs.Common.{inl, inr, ap₂, ◌∙◌, not-suc-le-zero, le_of_suc-le-suc}
use Rattle.std.proofs.Math.Logic.{⊎_elim}
use mathlib.Core.List.Memᴰ
use mathlib.Core.List.{List, [], ◌∷◌, ◌++◌, map, Memᴰ, cons-ne-nil}
use Rattle.std.proofs.Math.Path.{◌≡◌, refl, sym, ap}
use Prim.Native.Nat.{ℕ, zero, suc, ◌+◌, ◌-◌, ◌/◌, ◌≤◌, ◌<◌, suc-le-suc}
use native.Mathlib.Omega.{arith}
use borrow.Author.Tests.{not-true}
use Rattle.std.proofs.Math.ListN.{length}
use Rattle.theory.specs.Search.{list}
use Rattle.theory.proofs.TestLaws.{never, and_iff, any_iff, every_iff, if_iff, le-or-lt}
use Rattle.theory.specs.Graph.{Comparison, comparisons, Graph}
use Rattle.theory.specs.Path.{Hop, Path, Walk, end, out, onward}
use Rattle.theory.proofs.WalkLaws.{out_iff, onward_iff, paths_iff}
use Rattle.theory.specs.Bisimulation.{Relation}
use Rattle.theory.specs.Rounds.{met, one_link, two_paths, zigs}
use Rattle.theory.proofs.ClauseLaws.{listed}
use Rattle.theory.specs.Parting.{Reason, by_link, by_paths, LinkFails, PathsFail, Fails}
use Rattle.theory.specs.Choosing.{Choice, none, some, or_else, when, first_in, paths_of, link_choice, pair_choice, lengths_choice, total_choice, paths_choice, chosen, Symmetric}

-- ---- the first of a list
pub none_some : {A : Type 0} {w : Reason} → none ≡ some w → A
none_some {w = w} e = let z : ◌≡◌ {A = ℕ} 0 1 = cc in absurd (omega arith)

pub when_some : (e : Bool) (v w : Reason) → when e v ≡ some w → So e × (v ≡ w)
unfolding when
when_some true v w h = (refl, cc)
when_some false v w h = none_some h

pub when_none : (e : Bool) (v : Reason) → (when e v ≡ none) ↔ (e ≡ false)
unfolding when
when_none true v = (λ h. none_some (sym h), λ h. never (sym h))
when_none false v = (λ _. refl, λ _. refl)

pub or_none : (c d : Choice) → (or_else c d ≡ none) ↔ ((c ≡ none) × (d ≡ none))
unfolding or_else
or_none none d = (λ e. (refl, e), λ h. h.1)
or_none (some w) d = (λ e. none_some (sym e), λ h. h.0)

pub or_some : (c d : Choice) (w : Reason) → or_else c d ≡ some w → (c ≡ some w) ⊎ ((c ≡ none) × (d ≡ some w))
unfolding or_else
or_some none d w e = inr (refl, e)
or_some (some v) d w e = inl e

or_assoc : (c d e : Choice) → or_else (or_else c d) e ≡ or_else c (or_else d e)
unfolding or_else
or_assoc none d e = refl
or_assoc (some w) d e = refl

module _ {A : Type 0} (f : A → Choice) where
  pub first_none : (xs : List A) → (first_in xs f ≡ none) ↔ ((x : A) → Memᴰ x xs → f x ≡ none)
  unfolding first_in
  first_none [] = (λ e x m. absurd (Memᴰ.not-nil m), λ h. refl)
  first_none (y ∷ ys) =
      simp (or_none, first_none ys) (
        λ (e, g) x m. ⊎_elim (λ q. rw q e) (g x) (Memᴰ.cases_cons m),
        λ g. (g y (Memᴰ.head refl), λ x m. g x (Memᴰ.tail m)),
      )

  pub first_some : (xs : List A) (w : Reason) → first_in xs f ≡ some w → (x : A) × Memᴰ x xs × (f x ≡ some w)
  unfolding first_in
  first_some [] w e = none_some e
  first_some (y ∷ ys) w e =
      ⊎_elim (λ h. (y, Memᴰ.head refl, h)) (λ (_, h). let (x, m, g) = first_some ys w h in (x, Memᴰ.tail m, g)) (or_some (f y) _ w e)

  first-append : (xs ys : List A) → first_in (xs ++ ys) f ≡ or_else (first_in xs f) (first_in ys f)
  unfolding first_in or_else
  first-append [] ys = refl
  first-append (x ∷ xs) ys = ap (or_else (f x)) (first-append xs ys) ∙ sym (or_assoc (f x) (first_in xs f) (first_in ys f))

  -- of a list that a function gives: the element at the first number that gives something
  pub list-first : (n : ℕ) (g : ℕ → A) (i : ℕ) (w : Reason) → i < n → ((j : ℕ) → j < i → f (g j) ≡ none) → f (g i) ≡ some w
      → first_in (list n g) f ≡ some w
  unfolding first_in list or_else
  list-first zero g i w l h e = absurd (not-suc-le-zero l)
  list-first (suc n) g zero w l h e = rw e
  list-first (suc n) g (suc i) w l h e =
      rw (h 0 (omega arith)) (list-first n (λ j. g (suc j)) i w (le_of_suc-le-suc l) (λ j m. h (suc j) (suc-le-suc m)) e)

  pub list_some : (n : ℕ) (g : ℕ → A) (w : Reason) → first_in (list n g) f ≡ some w
      → (i : ℕ) × (i < n) × (f (g i) ≡ some w) × ((j : ℕ) → j < i → f (g j) ≡ none)
  unfolding first_in list
  list_some zero g w e = none_some e
  list_some (suc n) g w e =
      ⊎_elim (λ h. (0, omega arith, h, λ j m. absurd (not-suc-le-zero m)))
      (λ (o, h). let (i, l, k, b) = list_some n (λ j. g (suc j)) w h in (suc i, suc-le-suc l, k, before o b))
      (or_some (f (g 0)) _ w e)
    where
      before : {i : ℕ} → f (g 0) ≡ none → ((j : ℕ) → j < i → f (g (suc j)) ≡ none) → (j : ℕ) → j < suc i → f (g j) ≡ none
      before o b zero m = o
      before o b (suc j) m = b j (le_of_suc-le-suc m)

  pub list_none : (n : ℕ) (g : ℕ → A) → (first_in (list n g) f ≡ none) ↔ ((i : ℕ) → i < n → f (g i) ≡ none)
  unfolding first_in list
  list_none zero g = (λ e i l. absurd (not-suc-le-zero l), λ h. refl)
  list_none (suc n) g =
      simp (or_none, list_none n (λ j. g (suc j))) (λ (o, h). from o h, λ h. (h 0 (omega arith), λ i l. h (suc i) (suc-le-suc l)))
    where
      from : f (g 0) ≡ none → ((i : ℕ) → i < n → f (g (suc i)) ≡ none) → (i : ℕ) → i < suc n → f (g i) ≡ none
      from o h zero l = o
      from o h (suc i) l = h i (le_of_suc-le-suc l)

-- ---- paths of a length
first-map : (h : Hop) (f : Path → Choice) (ps : List Path) → first_in (map (λ p. h ∷ p) ps) f ≡ first_in ps (λ p. f (h ∷ p))
unfolding first_in
first-map h f [] = refl
first-map h f (p ∷ ps) = ap (or_else (f (h ∷ p))) (first-map h f ps)

-- the first path is one by the first link that leads to one
pub first-onward : (g : ℕ → List Path) (f : Path → Choice) (hs : List Hop)
    → first_in (onward g hs) f ≡ first_in hs (λ h. first_in (g h.to) (λ p. f (h ∷ p)))
unfolding first_in onward
first-onward g f [] = refl
first-onward g f (h ∷ hs) = first-append f (map (λ p. h ∷ p) (g h.to)) (onward g hs) ∙ ap₂ or_else (first-map h f (g h.to)) (first-onward g f hs)

nil-map : (h : Hop) (ps : List Path) → Memᴰ [] (map (λ p. h ∷ p) ps) → ⊥
nil-map h [] m = Memᴰ.not-nil m
nil-map h (p ∷ ps) m = ⊎_elim (λ e. cons-ne-nil h p (sym e)) (nil-map h ps) (Memᴰ.cases_cons m)

nil-onward : (g : ℕ → List Path) (hs : List Hop) → Memᴰ [] (onward g hs) → ⊥
unfolding onward
nil-onward g [] m = Memᴰ.not-nil m
nil-onward g (h ∷ hs) m = ⊎_elim (nil-map h (g h.to)) (nil-onward g hs) (Memᴰ.append_cases (map (λ p. h ∷ p) (g h.to)) m)

-- the paths that are listed are those of k links
pub paths_of_iff : (k : ℕ) (g : Graph) (x : ℕ) (p : Path) → Memᴰ p (paths_of k g x) ↔ (Walk g x p × (length p ≡ k))
unfolding paths_of Walk
paths_of_iff zero g x [] = (λ m. (tt, refl), λ t. Memᴰ.head refl)
paths_of_iff zero g x (h ∷ p) = (λ m. ⊎_elim (λ e. absurd (cons-ne-nil h p e)) (λ n. absurd (Memᴰ.not-nil n)) (Memᴰ.cases_cons m), λ t. absurd (omega arith))
paths_of_iff (suc k) g x [] = (λ m. absurd (nil-onward _ _ m), λ t. absurd (omega arith))
paths_of_iff (suc k) g x (h ∷ p) =
    simp (onward_iff, paths_of_iff k g h.to p, out_iff) (λ (m, (w, e)). ((m, w), ap suc e), λ ((m, w), e). (m, (w, omega arith)))

-- ---- what is chosen
module _ (l r : Graph) (z : Relation) (a b : ℕ) where
  pub link_some : (w : Reason) → link_choice l r z a b ≡ some w → (h : Hop) × (by_link h ≡ w) × LinkFails l r z a b h
  unfolding link_choice
  link_some w e =
      let (h, m, f) = first_some _ (out l.links a) w e in
      let (n, q) = when_some _ (by_link h) w f in
      (h, q, record { there = (out_iff l.links a h).0 m; missing = not-true _ n })

  pub link_none : (link_choice l r z a b ≡ none) ↔ So (one_link l r z a b)
  unfolding link_choice one_link
  link_none = simp (every_iff, first_none, when_none) (λ f h m. back _ (f h m), λ f h m. ap not (f h m))
    where
      back : (e : Bool) → not e ≡ false → So e
      back true h = refl
      back false h = never (sym h)

  pub link-met : link_choice l r z a b ≡ none → (h : Hop) → LinkFails l r z a b h → ⊥
  unfolding one_link
  link-met e h f = false≢true (sym f.missing ∙ (every_iff _ _).0 (link_none.0 e) h ((out_iff l.links a h).1 f.there))

  -- two paths have a counterpart by every comparison that their ends pass
  abbrev pub Answers : Path → Path → Type 0
  Answers p q = (t : Comparison) → l.ends t (end a p) (end a q) ≡ true → met r z b t p q ≡ true

  pair_none : (p q : Path) → pair_choice l r z a b p q ≡ none → Answers p q
  unfolding pair_choice
  pair_none p q e t i = on _ _ ((when_none _ _).0 ((first_none _ comparisons).0 e t (listed t))) i
    where
      on : (d m : Bool) → d && not m ≡ false → So d → So m
      on true true h i = refl
      on true false h i = sym h
      on false m h i = never i

  pub lengths_none : (i j : ℕ) → lengths_choice l r z a b i j ≡ none → (p q : Path) → Walk l a p → Walk l a q → length p ≡ i → length q ≡ j → Answers p q
  unfolding lengths_choice
  lengths_none i j e p q wp wq dp dq =
      pair_none p q
      ((first_none _ (paths_of j l a)).0 ((first_none _ (paths_of i l a)).0 e p ((paths_of_iff i l a p).1 (wp, dp))) q ((paths_of_iff j l a q).1 (wq, dq)))

  module _ (c : ℕ) where
    lengths_some : (i j : ℕ) (w : Reason) → i ≤ c → j ≤ c → lengths_choice l r z a b i j ≡ some w
        → (t : Comparison) × (p : Path) × (q : Path) × (by_paths t p q ≡ w) × PathsFail l r c z a b t p q × (length p ≡ i) × (length q ≡ j)
    unfolding lengths_choice pair_choice
    lengths_some i j w li lj e =
        let (p, mp, f) = first_some _ (paths_of i l a) w e in
        let (q, mq, g) = first_some _ (paths_of j l a) w f in
        let (t, _, h) = first_some _ comparisons w g in
        let (k, d) = when_some _ (by_paths t p q) w h in
        let (u, n) = (and_iff _ _).0 k in
        let (wp, dp) = (paths_of_iff i l a p).0 mp in
        let (wq, dq) = (paths_of_iff j l a q).0 mq in
        (t, p, q, d, record { short = omega arith; short' = omega arith; walk = wp; walk' = wq; ends = u; missing = not-true _ n }, dp, dq)

    -- lengths that are looked at
    pub total_none : (s : ℕ) → total_choice l r c z a b s ≡ none → (i j : ℕ) → i ≤ j → j ≤ c → i + j ≡ s → lengths_choice l r z a b i j ≡ none
    unfolding total_choice
    total_none s e i j o m d =
        let f = (list_none (λ i. lengths_choice l r z a b i (s - i)) (suc (s / 2) - (s - c)) (λ i. s - c + i)).0 e (i - (s - c)) (omega arith) in
        let di : s - c + (i - (s - c)) ≡ i = omega arith in
        let dj : s - i ≡ j = omega arith in
        rw (di, dj) at f

    paths_some : (w : Reason) → paths_choice l r c z a b ≡ some w
        → (t : Comparison) × (p : Path) × (q : Path) × (by_paths t p q ≡ w) × PathsFail l r c z a b t p q
        × ((i j : ℕ) → i ≤ j → j ≤ c → i + j < length p + length q → lengths_choice l r z a b i j ≡ none)
    unfolding paths_choice total_choice
    paths_some w e =
        let (s, ls, f, before) = list_some (total_choice l r c z a b) (suc (c + c)) (λ s. s) w e in
        let (i, li, g, _) = list_some (λ i. lengths_choice l r z a b i (s - i)) (suc (s / 2) - (s - c)) (λ i. s - c + i) w f in
        let (t, p, q, d, k, dp, dq) = lengths_some (s - c + i) (s - (s - c + i)) w (omega arith) (omega arith) g in
        (t, p, q, d, k, λ i' j' o m n. total_none (i' + j') (before (i' + j') (omega arith)) i' j' o m refl)

    paths_none : paths_choice l r c z a b ≡ none → (i j : ℕ) → i ≤ j → j ≤ c → lengths_choice l r z a b i j ≡ none
    unfolding paths_choice
    paths_none e i j o m = total_none (i + j) ((list_none (total_choice l r c z a b) (suc (c + c)) (λ s. s)).0 e (i + j) (omega arith)) i j o m refl

    -- The reason is one.
    pub chosen_fails : (w : Reason) → chosen l r c z a b ≡ some w → Fails l r c z a b w
    unfolding chosen
    chosen_fails w e =
        ⊎_elim
        (λ f. let (h, d, k) = link_some w f in rw (← d) k)
        (λ (_, f). let (t, p, q, d, k, _) = paths_some w f in rw (← d) k)
        (or_some _ _ w e)

    -- Two paths are chosen only where no link fails.
    pub chosen_links : (t : Comparison) (p q : Path) → chosen l r c z a b ≡ some (by_paths t p q) → (h : Hop) → LinkFails l r z a b h → ⊥
    unfolding chosen
    chosen_links t p q e =
        ⊎_elim (λ f. let (h, d, _) = link_some _ f in absurd (link-two h t p q d)) (λ (f, _). link-met f) (or_some _ _ _ e)
      where
        link-two : (h : Hop) (t : Comparison) (p q : Path) → by_link h ≡ by_paths t p q → ⊥
        link-two h t p q d = let z : ◌≡◌ {A = ℕ} 0 1 = cc in omega arith

    module _ (el : Symmetric l) (er : Symmetric r) where
      met-turn : (t : Comparison) (p q : Path) → So (met r z b t q p) → So (met r z b t p q)
      unfolding met
      met-turn t p q e =
          let (y, ly, (f, (y', ly', (f', g)))) = simp (any_iff, and_iff) at e in
          simp (any_iff, and_iff) (y', ly', (f', (y, ly, (f, er t y y' g))))

      -- paths of either order have a counterpart where the lengths below n in all are cleared
      all_met : (n : ℕ) → ((i j : ℕ) → i ≤ j → j ≤ c → i + j < n → lengths_choice l r z a b i j ≡ none)
          → (p q : Path) → length p ≤ c → length q ≤ c → length p + length q < n → Walk l a p → Walk l a q → Answers p q
      all_met n clear p q lp lq s wp wq t e =
          ⊎_elim
          (λ o. lengths_none (length p) (length q) (clear (length p) (length q) o lq s) p q wp wq refl refl t e)
          (λ o. met-turn t p q (lengths_none (length q) (length p) (clear (length q) (length p) (omega arith) lp (omega arith)) q p wq wp refl refl t (el t _ _ e)))
          (le-or-lt (length p) (length q))

      -- No two paths with fewer links in all fail.
      pub chosen_fewest : (t : Comparison) (p q : Path) → chosen l r c z a b ≡ some (by_paths t p q)
          → (t' : Comparison) (p' q' : Path) → PathsFail l r c z a b t' p' q' → length p + length q ≤ length p' + length q'
      unfolding chosen
      chosen_fewest t p q e t' p' q' f =
          ⊎_elim (λ h. h)
          (λ s. absurd (false≢true (sym f.missing ∙ all_met (length p + length q) clear p' q' f.short f.short' s f.walk f.walk' t' f.ends)))
          (le-or-lt (length p + length q) (length p' + length q'))
        where
          clear : (i j : ℕ) → i ≤ j → j ≤ c → i + j < length p + length q → lengths_choice l r z a b i j ≡ none
          clear =
              ⊎_elim
              (λ g. let (h, d, _) = link_some _ g in let z : ◌≡◌ {A = ℕ} 0 1 = cc in absurd (omega arith))
              (λ (_, g). let (t'', p'', q'', d, _, k) = paths_some _ g in let dp : p'' ≡ p = cc in let dq : q'' ≡ q = cc in rw (dp, dq) at k)
              (or_some _ _ _ e)

      -- There is no reason exactly where the clauses hold from left to right.
      pub chosen_none : (chosen l r c z a b ≡ none) ↔ So (zigs l r c z a b)
      unfolding chosen zigs two_paths
      chosen_none = simp (or_none, and_iff, link_none) (λ (e, f). (e, two.0 f), λ (e, f). (e, two.1 f))
        where
          two : (paths_choice l r c z a b ≡ none) ↔ So (two_paths l r c z a b)
          two = simp (every_iff, if_iff, paths_iff) (
            λ e p (wp, lp) q (wq, lq) t _ i. all_met (suc (c + c)) (λ i j o m _. paths_none e i j o m) p q lp lq (omega arith) wp wq t i,
            λ f. by (paths_choice l r c z a b) refl f,
          )
            where
              by : (d : Choice) → paths_choice l r c z a b ≡ d
                  → ((p : Path) → Walk l a p × (length p ≤ c) → (q : Path) → Walk l a q × (length q ≤ c) → (t : Comparison) → Memᴰ t comparisons
                  → So (l.ends t (end a p) (end a q)) → So (met r z b t p q)) → d ≡ none
              by none e f = refl
              by (some w) e f =
                  let (t, p, q, _, k, _) = paths_some w e in
                  absurd (false≢true (sym k.missing ∙ f p (k.walk, k.short) q (k.walk', k.short') t (listed t) k.ends))
