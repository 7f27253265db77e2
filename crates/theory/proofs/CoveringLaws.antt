-- Covering: which paths a search for two that fail may leave out. For a pair (a, b), of a path from a only its tip counts: the node where it ends, and
-- the set of the nodes where the paths from b that are alike to it end. A path covers those with its end that are no shorter and whose set has all of
-- its own: it fails wherever they do. So paths that cover all of at most c links decide the clause for two paths (`kept_enough`), such are found link by
-- link (`levels_cover`), and of two failing paths with fewest links in all neither is covered by a shorter one (`fewest_fresh`): such two are found, with just
-- these lengths, among the paths that are kept (`kept-first`). That is why a search by levels may leave out of a level whatever a level below covers.
-- For any graphs and any bound. The search says the same of links in lists and sets in words (`search_levels`, proofs/Deciding), since it holds of lists that
-- belong to no graph too.
use Rattle.std.proofs.Math.Bool.{So, false≢true, not-eq-not}
use Rattle.std.specs.Prelude.{◌↔◌, ◌≡◌, refl, ℕ, ◌+◌, ◌<◌, ◌≤◌}
use mathlib.Core.List.{[], ◌∷◌, ◌++◌, append-nil, append_assoc}
use Rattle.std.proofs.Common.{sym, ap, ◌∙◌, arith}
use Rattle.std.proofs.Math.ListN.{length, length-append}
use Rattle.theory.proofs.TestLaws.{facts, every_iff, if_iff, test_fails}
use Rattle.theory.specs.Graph.{Comparison, Graph}
use Rattle.theory.specs.Path.{Hop, Path, Walk, end}
use Rattle.theory.proofs.WalkLaws.{paths_iff}
use Rattle.theory.specs.Bisimulation.{Relation}
use Rattle.theory.specs.Rounds.{follow, met, two_paths}
use Rattle.theory.proofs.FollowLaws.{end-append, walk_append, follow_split, follow_join}
use Rattle.theory.proofs.ClauseLaws.{listed}
use Rattle.theory.specs.Parting.{PathsFail}
use Rattle.theory.specs.CoveringLaws.{Covers, Covered, Enough}

module _ {l r : Graph} {c : ℕ} {z : Relation} {a b : ℕ} where
  -- Where two paths fail, paths that cover them do, with no more links in all.
  pub covers_fails : {t : Comparison} {p q p' q' : Path} → Covers r z a b p' p → Covers r z a b q' q → Walk l a p' → Walk l a q'
      → PathsFail l r c z a b t p q → PathsFail l r c z a b t p' q' × (length p' + length q' ≤ length p + length q)
  unfolding met
  covers_fails h k w w' f = (
    record {
      short = omega (arith, h.shorter, f.short);
      short' = omega (arith, k.shorter, f.short');
      walk = w;
      walk' = w';
      ends = rw (h.last, k.last) f.ends;
      missing = test_fails _ _ (λ e.
          let (y, o, (i, (y', o', (i', j)))) = simp facts at e in
          simp facts (y, o, (h.set y i, (y', o', (k.set y' i', j))))) f.missing;
    },
    omega (arith, h.shorter, k.shorter),
  )

  -- Two paths that fail, where none with fewer links in all do, are covered by no shorter ones: a search that goes by the links in all may leave out
  -- whatever a shorter path covers.
  pub fewest_fresh : {t : Comparison} {p q p' q' : Path} → PathsFail l r c z a b t p q
      → ((s v : Path) → PathsFail l r c z a b t s v → length p + length q ≤ length s + length v)
      → Covers r z a b p' p → Covers r z a b q' q → Walk l a p' → Walk l a q' → (length p' ≡ length p) × (length q' ≡ length q)
  fewest_fresh {p' = p'} {q' = q'} f least h k w w' =
      let (g, _) = covers_fails h k w w' f in
      let n = least p' q' g in
      (omega (arith, h.shorter, k.shorter), omega (arith, h.shorter, k.shorter))

module _ {r : Graph} {z : Relation} {a b : ℕ} where
  -- Covering is reflexive and transitive, and it is kept where both paths go on alike.
  pub covers_refl : (p : Path) → Covers r z a b p p
  covers_refl p = record { last = refl; set = λ y e. e; shorter = omega arith }

  pub covers_trans : {p q s : Path} → Covers r z a b p q → Covers r z a b q s → Covers r z a b p s
  covers_trans h k = record { last = h.last ∙ k.last; set = λ y e. k.set y (h.set y e); shorter = omega (arith, h.shorter, k.shorter) }

  pub covers_extend : {p p' : Path} (s : Path) → Covers r z a b p p' → Covers r z a b (p ++ s) (p' ++ s)
  covers_extend {p = p} {p' = p'} s h = record {
    last = end-append a p s ∙ ap (λ (x : ℕ). end x s) h.last ∙ sym (end-append a p' s);
    set = λ y e. (let (m, u, v) = follow_split r z p s b y e in follow_join r z p' s b m y (h.set m u) v);
    shorter = omega (arith, length-append p s, length-append p' s, h.shorter);
  }

module _ {l r : Graph} {c : ℕ} {z : Relation} {a b : ℕ} {Kept : Path → Type 0} where
  -- Where two paths fail, two kept ones do, with no more links in all.
  pub kept_fewest : Enough l r c z a b Kept → (t : Comparison) (p q : Path) → PathsFail l r c z a b t p q
      → (p' : Path) × (q' : Path) × Kept p' × Kept q' × PathsFail l r c z a b t p' q' × (length p' + length q' ≤ length p + length q)
  kept_fewest n t p q f =
      let (p', i, w, h) = n.each p f.walk f.short in
      let (q', j, v, k) = n.each q f.walk' f.short' in
      let (g, m) = covers_fails h k w v f in
      (p', q', i, j, g, m)

  -- Of two that fail with fewest links in all, two kept ones fail that are just as long: what is left out changes no lengths at which something fails first.
  pub kept-first : Enough l r c z a b Kept → (t : Comparison) (p q : Path) → PathsFail l r c z a b t p q
      → ((s v : Path) → PathsFail l r c z a b t s v → length p + length q ≤ length s + length v)
      → (p' : Path) × (q' : Path) × Kept p' × Kept q' × PathsFail l r c z a b t p' q' × (length p' ≡ length p) × (length q' ≡ length q)
  kept-first n t p q f least =
      let (p', i, w, h) = n.each p f.walk f.short in
      let (q', j, v, k) = n.each q f.walk' f.short' in
      let (g, _) = covers_fails h k w v f in
      let (e, d) = fewest_fresh f least h k w v in
      (p', q', i, j, g, e, d)

  -- So the clause for two paths holds exactly when no two kept ones fail.
  pub kept_enough : Enough l r c z a b Kept
      → So (two_paths l r c z a b) ↔ ((t : Comparison) (p q : Path) → Kept p → Kept q → PathsFail l r c z a b t p q → ⊥)
  unfolding two_paths
  kept_enough n = simp (every_iff, if_iff, paths_iff) (
    λ f t p q _ _ g. false≢true (sym g.missing ∙ f p (g.walk, g.short) q (g.walk', g.short') t (listed t) g.ends),
    λ f p (w, s) q (w', s') t _ e. not-eq-not.0 (λ m.
        let (p', q', i, j, g, _) = kept_fewest n t p q (record { short = s; short' = s'; walk = w; walk' = w'; ends = e; missing = m }) in
        f t p' q' i j g),
  )

  -- Kept paths, the empty one among them, that cover every path of at most c links that is one of them and one link more, cover all.
  pub levels_cover : Kept []
      → ((p : Path) (h : Hop) → Kept p → Walk l a (p ++ (h ∷ [])) → length p < c → Covered l r z a b Kept (p ++ (h ∷ [])))
      → Enough l r c z a b Kept
  unfolding Walk end
  levels_cover start onward = record { each = λ p w m. from p [] start tt w (omega arith) }
    where
      from : (s p : Path) → Kept p → Walk l a p → Walk l (end a p) s → length p + length s ≤ c → Covered l r z a b Kept (p ++ s)
      from [] p i w v m = (p, i, w, rw append-nil (covers_refl p))
      from (h ∷ s) p i w (e, v) m =
          let (p', j, w', k) = onward p h i (walk_append l a p (h ∷ []) w (e, tt)) (omega arith) in
          let (p'', i', w'', k') = from s p' j w' (rw (k.last, end-append) v) (omega (arith, k.shorter, length-append p (h ∷ []))) in
          (p'', i', w'', covers_trans k' (rw append_assoc at (covers_extend s k)))
