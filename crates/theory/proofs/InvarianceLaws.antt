-- Related nodes keep what expressions say: a pair of the k-th relation of a family keeps every expression within the bound of depth at most k.
-- A one-sided family keeps positive expressions, from left to right; a two-sided family keeps all, both ways.
--
-- The argument is 000's for proposition 13, by induction on the expression, with its depth counted against the family. "There is a way" (`find`): each
-- step of the way is answered by the clause for one link, which goes one relation down in the family, as the step adds one to the depth; so the ways
-- end at related nodes. A same or differ (`two_ends`): the two ways that make it true at a run along two paths of at most c links (`FitLaws`), the clause
-- for two paths gives two paths from b alike to them whose ends pass the same comparison, and these take the same expressions (`carry`): labels are
-- equal place by place, and each test on the way, of less depth, has its truth at the related node by induction. The count starts anew in a test, since
-- only the lengths of the two ways are held against c, and not what the tests in them ask. A denial is kept because a two-sided family, turned round, is
-- one again.
use Rattle.std.specs.Prelude.{true, ◌≡◌, refl, ℕ, suc, max, ◌≤◌}
use Rattle.std.proofs.Common.{inl, inr, arith, le_refl}
use Rattle.theory.specs.Graph.{Comparison, Graph, Node}
use Rattle.theory.specs.Expression.{PathExpr, NodeExpr, stay, step, test, seq, union, neg, conj, disj, exists, compare, PositivePath, Positive}
use Rattle.theory.specs.Meaning.{reach, holds}
use Rattle.theory.specs.Bound.{len, WithinPath, Within, depth_before, test_depth, depth}
use Rattle.theory.specs.Path.{Path, end}
use Rattle.theory.specs.Bisimulation.{Relation, pairs, Zig, Sides, one_sided, two_sided, Bisimulation, Spoken}
use Rattle.theory.specs.Rounds.{follow, met}
use Rattle.theory.proofs.TestLaws.{facts, not_iff, test_eq}
use Rattle.theory.proofs.FollowLaws.{follow_split, follow-end}
use Rattle.theory.proofs.ClauseLaws.{met_iff, apart}
use Rattle.theory.proofs.FamilyLaws.{Family, turn, lower, steady}
use Rattle.theory.proofs.FitLaws.{Fits, Along, reach_fits}

-- A path expression that leads somewhere from a leads somewhere from b, if each end has a related end.
some_end : {s : Sides} {l r : Graph} {c : ℕ} {z : ℕ → Relation} (f : Family s l r c z) (a b : ℕ) (w : PathExpr)
    → ((y : ℕ) → reach l w a y ≡ true → (y' : ℕ) × (reach r w b y' ≡ true) × (z 0 y y' ≡ true))
    → holds l (exists w) a ≡ true → holds r (exists w) b ≡ true
unfolding holds
some_end f a b w g h =
    let (y, o, u) = simp facts at h in
    let (y', u', j) = g y u in
    simp facts (y', (f.right _ _ _ j).below, u')

-- Two expressions that pass a comparison from a pass it from b, if what follows a path that fits one of them takes it.
two_ends : {l r : Graph} {c : ℕ} {z : Relation} (right : (a b : ℕ) → z a b ≡ true → Node r b) (t : Comparison) (w v : PathExpr) (a b : ℕ)
    → z a b ≡ true → Zig l r c (pairs z) a b → len w ≤ c → len v ≤ c
    → ((p : Path) (y : ℕ) → Fits l w a p → follow r z p b y ≡ true → reach r w b y ≡ true)
    → ((p : Path) (y : ℕ) → Fits l v a p → follow r z p b y ≡ true → reach r v b y ≡ true)
    → holds l (compare t w v) a ≡ true → holds r (compare t w v) b ≡ true
unfolding holds met
two_ends {l} {r} {c} {z} right t w v a b i zig n m f g h =
    let (x, _, (u, (y, _, (u', e)))) = simp facts at h in meet x y (reach_fits l w a x u) (reach_fits l v a y u') e
  where
    meet : (x y : ℕ) → Along l w a x → Along l v a y → l.ends t x y ≡ true → holds r (compare t w v) b ≡ true
    meet x y p q e =
        let d = zig.two t p.path q.path (omega arith) (omega arith) p.walk q.walk (rw (p.ends, q.ends) e) in
        let (x', o, (s, (y', o', (s', e')))) = simp facts at ((met_iff r z (λ b x y h _. right h y) b t p.path q.path (right a b i).below).1 d) in
        simp facts (x', o, (f p.path x' p.fits s, (y', o', (g q.path y' q.fits s', e'))))

mutual
  unfolding reach holds Within Positive depth Fits follow

  -- an end of a path expression has a related end of the same expression
  find : (w : PathExpr) {s : Sides} {l r : Graph} {c : ℕ} {z : ℕ → Relation} (f : Family s l r c z)
      → WithinPath c w → (s ≡ one_sided → PositivePath w) → (d k a b y : ℕ)
      → depth_before w d ≤ k → z k a b ≡ true → reach l w a y ≡ true → (y' : ℕ) × (reach r w b y' ≡ true) × (z d y y' ≡ true)
  find stay f n p d k a b y s i h = (b, simp facts refl, rw (simp facts at h) at (lower f d k a b s i))
  find (step e) f n p d k a b y s i h = (f.zig d a b (lower f (suc d) k a b s i)).one e y h
  find (test q) f n p d k a b y s i h =
      let (e, t) = simp facts at h in
      (b, simp facts (refl, keeps q f n p k a b (omega arith) i t), rw e at (lower f d k a b (omega arith) i))
  find (seq w v) f n p d k a b y s i h =
      let (m, o, (u, t)) = simp facts at h in
      let (m', u', j) = find w f n.0 (λ e. (p e).0) (depth_before v d) k a b m s i u in
      let (y', t', j') = find v f n.1 (λ e. (p e).1) d (depth_before v d) m m' y (le_refl _) j t in
      (y', simp facts (m', (f.right _ _ _ j).below, (u', t')), j')
  find (union w v) f n p d k a b y s i h =
      elim (simp facts at h) [
        | inl u ↦ (let (y', u', j) = find w f n.0 (λ e. (p e).0) d k a b y (omega arith) i u in (y', simp facts (inl u'), j))
        | inr u ↦ (let (y', u', j) = find v f n.1 (λ e. (p e).1) d k a b y (omega arith) i u in (y', simp facts (inr u'), j))
      ]

  -- what follows a path that fits a path expression takes the expression
  carry : (w : PathExpr) {s : Sides} {l r : Graph} {c : ℕ} {z : ℕ → Relation} (f : Family s l r c z)
      → WithinPath c w → (s ≡ one_sided → PositivePath w) → (k a b y : ℕ) (x : Path)
      → test_depth w ≤ k → Fits l w a x → z k a b ≡ true → follow r (z k) x b y ≡ true → reach r w b y ≡ true
  carry stay f n p k a b y x s e i t = rw e at t
  carry (step a') f n p k a b y x s (m, e) i t = let (m', o, ((u, j), e')) = simp facts at (rw e at t) in rw e' at u
  carry (test q) f n p k a b y x s (e, u) i t = simp facts (simp facts at (rw e at t), keeps q f n p k a b s i u)
  carry (seq w v) {r = r} {z = z} f n p k a b y x s (x₁, x₂, e, g₁, g₂) i t =
      let (m, t₁, t₂) = follow_split r (z k) x₁ x₂ b y (rw e at t) in
      let j = follow-end r (z k) x₁ a b m i t₁ in
      simp facts (
        m,
        (f.right k (end a x₁) m j).below,
        (carry w f n.0 (λ e. (p e).0) k a b m x₁ (omega arith) g₁ i t₁, carry v f n.1 (λ e. (p e).1) k (end a x₁) m y x₂ (omega arith) g₂ j t₂),
      )
  carry (union w v) f n p k a b y x s g i t =
      simp facts (elim g [
        | inl g' ↦ inl (carry w f n.0 (λ e. (p e).0) k a b y x (omega arith) g' i t)
        | inr g' ↦ inr (carry v f n.1 (λ e. (p e).1) k a b y x (omega arith) g' i t)
      ])

  -- what holds at the left node of a pair holds at the right one
  pub keeps : (q : NodeExpr) {s : Sides} {l r : Graph} {c : ℕ} {z : ℕ → Relation} (f : Family s l r c z)
      → Within c q → Spoken s q → (k a b : ℕ) → depth q ≤ k → z k a b ≡ true → holds l q a ≡ true → holds r q b ≡ true
  keeps (neg q) {s = one_sided} f n p k a b s i h = absurd (p refl)
  keeps (neg q) {s = two_sided} f n p k a b s i h =
      (not_iff _).1 (λ u. (not_iff _).0 h (keeps q (turn f) n (λ e. apart e refl) k b a s i u))
  keeps (conj q q') f n p k a b s i h =
      let (u, v) = simp facts at h in
      simp facts (keeps q f n.0 (λ e. (p e).0) k a b (omega arith) i u, keeps q' f n.1 (λ e. (p e).1) k a b (omega arith) i v)
  keeps (disj q q') f n p k a b s i h =
      simp facts (elim (simp facts at h) [
        | inl u ↦ inl (keeps q f n.0 (λ e. (p e).0) k a b (omega arith) i u)
        | inr u ↦ inr (keeps q' f n.1 (λ e. (p e).1) k a b (omega arith) i u)
      ])
  keeps (exists w) f n p k a b s i h = some_end f a b w (λ y u. find w f n p 0 k a b y s i u) h
  keeps (compare t w v) f n p k a b s i h =
      let m = max (test_depth w) (test_depth v) in
      let j = lower f (suc m) k a b s i in
      let o = f.down m a b j in
      two_ends (f.right m) t w v a b o (f.zig m a b j) n.0 n.1
      (λ x y g u. carry w f n.2 (λ e. (p e).0) m a b y x (omega arith) g o u)
      (λ x y g u. carry v f n.3 (λ e. (p e).1) m a b y x (omega arith) g o u) h

-- Two-sided: the expression has one truth at both nodes.
pub agrees : (q : NodeExpr) {l r : Graph} {c : ℕ} {z : ℕ → Relation} (f : Family two_sided l r c z)
    → Within c q → (k a b : ℕ) → depth q ≤ k → z k a b ≡ true → holds l q a ≡ holds r q b
agrees q f n k a b s i =
    test_eq _ _ (λ h. keeps q f n (λ e. apart e refl) k a b s i h) (λ h. keeps q (turn f) n (λ e. apart e refl) k b a s i h)

-- A bisimulation relates only nodes that no expression within the bound tells apart.
pub bisimulation_agrees : {l r : Graph} {c : ℕ} {z : Relation} → Bisimulation l r c (pairs z) → (q : NodeExpr) → Within c q
    → (a b : ℕ) → z a b ≡ true → holds l q a ≡ holds r q b
bisimulation_agrees {l} {r} {c} {z} m q n a b i = agrees q (steady two_sided l r c z m) n (depth q) a b (le_refl _) i
