-- After every round expressions of that depth describe the nodes. So a pair that a round drops is distinguished at that depth and at none below, and
-- the pairs that no expression within the bound distinguishes are those of the greatest.
--
-- By induction on the rounds (`account`). Before the first, "always true" describes every node: all pairs of nodes are related. Let chi describe the nodes after
-- round k. A pair that round k + 1 drops fails a clause (`goes`), from the left or, if both sides count, from the right; by `PartingLaws` an expression
-- of depth k + 1 then distinguishes it. The conjunction over all nodes b of what distinguishes a from b, or of "always true" where (a, b) stays,
-- describes a after round k + 1 (`narrower`). So a dropped pair has an expression of depth k + 1, and none of depth at most k, since related nodes keep
-- those (`InvarianceLaws`): k + 1 is the least depth (`parts_least`). As the rounds settle within n × m, none is above n × m (`dropped`); and a pair that stays
-- to the end keeps every expression within the bound, while the description of a tells it from all others (`agree_iff`, `keep_iff`).
use Rattle.std.specs.Prelude.{Bool, true, false, ◌↔◌, ◌⊎◌, ◌≡◌, refl, ℕ, zero, suc, ◌*◌, ◌<◌, ◌≤◌}
use Rattle.std.proofs.Math.Bool.{So}
use Rattle.std.proofs.lemmas.Bool.{false≢true}
use Rattle.std.proofs.Common.{inl, inr, ⊎_elim, sym, ◌∙◌, arith, eq-or-lt_of_le, le_of_suc-le-suc, le_refl}
use Rattle.std.proofs.Math.Path.{fun_ext}
use Rattle.theory.specs.Graph.{Graph, Node, WellFormed}
use Rattle.theory.specs.Expression.{NodeExpr, neg, conj, always, Positive}
use Rattle.theory.specs.Meaning.{reach, holds}
use Rattle.theory.specs.Bound.{Within, depth}
use Rattle.theory.specs.Bisimulation.{Relation, flip, Sides, one_sided, two_sided, Spoken}
use Rattle.theory.specs.Rounds.{related, after, settled, matched, one_link, two_paths, zigs, zags}
use Rattle.theory.proofs.TestLaws.{facts, le-or-lt, and_fails, if_fails, every_fails, test_eq, test_fails}
use Rattle.theory.proofs.WalkLaws.{out_iff, paths_iff, linked_node}
use Rattle.theory.proofs.ClauseLaws.{zigs_iff, zags_iff}
use Rattle.theory.proofs.GreatestLaws.{next_iff, start_iff, after_inside, greatest, round_most}
use Rattle.theory.proofs.FamilyLaws.{steady, rounds_family}
use Rattle.theory.proofs.InvarianceLaws.{keeps, bisimulation_agrees}
use Rattle.theory.specs.Parting.{Tells, LeastDepth, Parts, Describes, Described, Describable, Reason, by_link, by_paths, Fails, asked}
use Rattle.theory.proofs.PartingLaws.{parting, part_back}

-- a clause that is not met: which link, or which two paths
pub failing : (l r : Graph) (c : ℕ) (z : Relation) (a b : ℕ) → zigs l r c z a b ≡ false → (why : Reason) × Fails l r c z a b why
unfolding zigs one_link two_paths
failing l r c z a b e = ⊎_elim links pairs (and_fails _ _ e)
  where
    links : one_link l r z a b ≡ false → (why : Reason) × Fails l r c z a b why
    links e = let (h, m, f) = every_fails _ _ e in (by_link h, record { there = (out_iff _ _ h).0 m; missing = f })

    pairs : two_paths l r c z a b ≡ false → (why : Reason) × Fails l r c z a b why
    pairs e =
        let (p, m, e') = every_fails _ _ e in
        let (q, n, e'') = every_fails _ _ e' in
        let (t, _, i) = every_fails _ _ e'' in
        let (u, f) = if_fails _ _ i in
        let (w, s) = (paths_iff c l a p).0 m in
        let (w', s') = (paths_iff c l a q).0 n in
        (by_paths t p q, record { short = s; short' = s'; walk = w; walk' = w'; ends = u; missing = f })

unmet : (s : Sides) (l r : Graph) (c : ℕ) (z : Relation) (a b : ℕ) → zags s l r c z a b ≡ false
    → (s ≡ two_sided) × (why : Reason) × Fails r l c (flip z) b a why
unfolding zags
unmet one_sided l r c z a b e = absurd (false≢true (sym e))
unmet two_sided l r c z a b e = let (why, g) = failing r l c (flip z) b a e in (refl, why, g)

pub always_holds : (g : Graph) (x : ℕ) → x < g.size → holds g always x ≡ true
unfolding holds reach
always_holds g x o = simp facts (x, o, refl)

-- always true describes a node among those that it is related to
pub always_describes : {s : Sides} {l r : Graph} {c d : ℕ} {z : Relation} {x : ℕ} {among : ℕ → Type 0}
    → x < l.size → ((y : ℕ) → among y → z x y ≡ true) → Describes s l r c d z x among always
unfolding Within Positive depth
always_describes {l = l} {x = x} o f =
    record { within = tt; spoken = λ _. tt; shallow = omega arith; own = always_holds l x o; only = λ y u _. f y u }

-- what distinguishes x from b describes x among no other node than b
pub parts_describes : {s : Sides} {l r : Graph} {c d x b : ℕ} (z : Relation) {among : ℕ → Type 0} {q : NodeExpr} → ((y : ℕ) → among y → y ≡ b)
    → Parts s l r c d x b q → Describes s l r c d z x among q
parts_describes z alone p =
    let t = p.tells in
    record {
      within = t.within;
      spoken = t.spoken;
      shallow = p.shallow;
      own = t.left;
      only = λ y v h. absurd (false≢true (sym t.right ∙ (rw (alone y v) at h)));
    }

-- a conjunction describes among all nodes that one of its parts covers
pub conj_describes : {s : Sides} {l r : Graph} {c d : ℕ} {z : Relation} {x : ℕ} {A B C : ℕ → Type 0} {q p : NodeExpr}
    → ((y : ℕ) → C y → A y ⊎ B y) → Describes s l r c d z x A q → Describes s l r c d z x B p → Describes s l r c d z x C (conj q p)
unfolding holds Within Positive depth
conj_describes cover t u = record {
  within = (t.within, u.within);
  spoken = λ e. (t.spoken e, u.spoken e);
  shallow = omega (arith, t.shallow, u.shallow);
  own = simp facts (t.own, u.own);
  only = λ y i e. (let (e₁, e₂) = simp facts at e in ⊎_elim (λ k. t.only y k e₁) (λ k. u.only y k e₂) (cover y i));
}

module _ {s : Sides} {l r : Graph} {c d : ℕ} {z z' : Relation} {chi : ℕ → NodeExpr} (f : Described s l r c d z chi)
    (parted : (a b : ℕ) → z a b ≡ true → z' a b ≡ false → (q : NodeExpr) × Parts s l r c (suc d) a b q) where
  -- The number b, if it is a node.
  abbrev Only : ℕ → ℕ → Type 0
  Only b y = (y ≡ b) × Node r y

  -- among the node b alone: that the pair is related no more, or always true
  tell : (a b : ℕ) → (q : NodeExpr) × (Node l a → Describes s l r c (suc d) z' a (Only b) q)
  tell a b = go (z' a b) (z a b) refl refl
    where
      go : (i j : Bool) → z' a b ≡ i → z a b ≡ j → (q : NodeExpr) × (Node l a → Describes s l r c (suc d) z' a (Only b) q)
      go true j e g = (always, λ o. always_describes o.below (λ y (v, _). rw v e))
      go false true e g =
          let (q, p) = parted a b g e in (q, λ o. parts_describes z' (λ y (v, _). v) p)
      go false false e g = (
        chi a,
        λ o. let t = f a o in record {
          within = t.within;
          spoken = t.spoken;
          shallow = omega (arith, t.shallow);
          own = t.own;
          only = λ y (v, u) h. absurd (false≢true (sym g ∙ (rw v at (t.only y u h))));
        },
      )

  -- and among the nodes below n
  gather : (a n : ℕ) → (q : NodeExpr) × (Node l a → Describes s l r c (suc d) z' a (λ y. (y < n) × Node r y) q)
  gather a zero = (always, λ o. always_describes o.below (λ y (u, _). absurd (omega arith)))
  gather a (suc n) =
      let (q, t) = tell a n in
      let (p, g) = gather a n in
      (conj q p, λ o. conj_describes (λ y (i, u). ⊎_elim (λ e. inl (e, u)) (λ k. inr (k, u)) (eq-or-lt_of_le (le_of_suc-le-suc i))) (t o) (g o))

  -- the conjunctions describe the nodes for the smaller relation
  pub narrower : Describable s l r c (suc d) z'
  narrower = (λ a. (gather a r.size).0, λ a o. among_nodes ((gather a r.size).1 o))
    where
      among_nodes : {a : ℕ} {q : NodeExpr} → Describes s l r c (suc d) z' a (λ y. (y < r.size) × Node r y) q → Describes s l r c (suc d) z' a (Node r) q
      among_nodes t = record { within = t.within; spoken = t.spoken; shallow = t.shallow; own = t.own; only = λ y u. t.only y (u.below, u) }

-- Expressions that describe the nodes after round k, of the left graph and, where both sides count, of the right.
pub record Account (s : Sides) (l r : Graph) (c k : ℕ) : Type 0 where
  pub lefts : Describable s l r c k (after s l r c k)
  pub rights : s ≡ two_sided → Describable s r l c k (flip (after s l r c k))

module _ (s : Sides) {l r : Graph} (c : ℕ) (wl : WellFormed l) (wr : WellFormed r) where
  -- a relation in range that agrees there with a round's is the round's
  pub after_ext : (k : ℕ) (z : Relation) → ((a b : ℕ) → So (z a b) → (a < l.size) × (b < r.size))
      → ((a b : ℕ) → a < l.size → b < r.size → z a b ≡ after s l r c k a b) → z ≡ after s l r c k
  after_ext k z inside f =
      fun_ext (λ a. fun_ext (λ b. test_eq _ _
      (λ e. let (o, u) = inside a b e in sym (f a b o u) ∙ e)
      (λ e. let (o, u) = after_inside s c wl wr k a b e in f a b o.below u.below ∙ e)))

  -- a pair stays whose clauses are met
  pub stays : (k a b : ℕ) → So (after s l r c k a b) → So (zigs l r c (after s l r c k) a b) → So (zags s l r c (after s l r c k) a b)
      → So (after s l r c (suc k) a b)
  stays k a b e i j =
      let (o, u) = after_inside s c wl wr k a b e in
      (next_iff s c wl wr k a b).1 (record {
        left = o;
        right = u;
        before = e;
        zig = (zigs_iff r (after s l r c k) (λ b x y h e i. linked_node wr b x y e) l c a b u.below).0 i;
        zag = (zags_iff s l r c (after s l r c k) a b (λ b x y h e i. linked_node wl b x y e) o.below).0 j;
      })

  -- a pair goes because a clause is not met, from one side or, where it counts, from the other
  pub goes : (k a b : ℕ) → So (after s l r c k a b) → after s l r c (suc k) a b ≡ false
      → ((why : Reason) × Fails l r c (after s l r c k) a b why) ⊎ ((s ≡ two_sided) × (why : Reason) × Fails r l c (flip (after s l r c k)) b a why)
  goes k a b e f = go (zigs l r c (after s l r c k) a b) (zags s l r c (after s l r c k) a b) refl refl
    where
      go : (i j : Bool) → zigs l r c (after s l r c k) a b ≡ i → zags s l r c (after s l r c k) a b ≡ j
          → ((why : Reason) × Fails l r c (after s l r c k) a b why) ⊎ ((s ≡ two_sided) × (why : Reason) × Fails r l c (flip (after s l r c k)) b a why)
      go false j p q = inl (failing l r c (after s l r c k) a b p)
      go true false p q = inr (unmet s l r c (after s l r c k) a b q)
      go true true p q = absurd (false≢true (sym f ∙ stays k a b e p q))

  parted : (k a b : ℕ) → Account s l r c k → So (after s l r c k a b) → after s l r c (suc k) a b ≡ false → (q : NodeExpr) × Parts s l r c (suc k) a b q
  parted k a b t e f =
      let (o, u) = after_inside s c wl wr k a b e in
      ⊎_elim
      (λ (why, g). let (chi, h) = t.lefts in (asked chi why, parting wl wr h why a b o.below g))
      (λ (q, why, g). let (chi, h) = t.rights q in (neg (asked chi why), part_back q (parting wr wl h why b a u.below g)))
      (goes k a b e f)

  -- after every round expressions of its depth describe the nodes
  pub account : (k : ℕ) → Account s l r c k
  account zero =
      record {
        lefts = (λ x. always, λ x o. always_describes o.below (λ y u. (start_iff s c wl wr x y).1 (o, u)));
        rights = λ _. (λ x. always, λ x o. always_describes o.below (λ y u. (start_iff s c wl wr y x).1 (u, o)));
      }
  account (suc k) =
      let t = account k in
      record {
        lefts = narrower t.lefts.1 (λ a b e f. parted k a b t e f);
        rights = λ i. narrower (t.rights i).1 (λ b a e f. let (q, p) = parted k a b t e f in (neg q, part_back i p));
      }

  -- what is distinguished at depth k is not related after round k
  pub parts-drop : (k a b : ℕ) (q : NodeExpr) → Parts s l r c k a b q → after s l r c k a b ≡ false
  parts-drop k a b q p =
      let t = p.tells in
      test_fails _ _ (λ e. keeps q (rounds_family s c wl wr) t.within t.spoken k a b p.shallow e t.left) t.right

  -- what distinguishes a pair that round k keeps is deeper than k
  tells_deeper : (k a b : ℕ) (q : NodeExpr) → So (after s l r c k a b) → Tells s l r c a b q → k < depth q
  tells_deeper k a b q e t =
      ⊎_elim (λ i. absurd (false≢true (sym (parts-drop k a b q (record { tells = t; shallow = i })) ∙ e))) (λ i. i) (le-or-lt (depth q) k)

  -- so what distinguishes it and is at most k + 1 deep has the least depth, which is k + 1
  pub parts_least : (k a b : ℕ) (q : NodeExpr) → So (after s l r c k a b) → Parts s l r c (suc k) a b q → (depth q ≡ suc k) × LeastDepth s l r c a b (suc k)
  parts_least k a b q e p =
      let exact : depth q ≡ suc k = omega (arith, p.shallow, tells_deeper k a b q e p.tells) in
      (exact, record { some = (q, p.tells, exact); least = λ q' t. tells_deeper k a b q' e t })

  -- a pair of nodes that is not related after round k was dropped by one of the rounds until then, and the number of that round is its least depth
  dropped_by : (k a b : ℕ) → Node l a → Node r b → after s l r c k a b ≡ false → (d : ℕ) × (d ≤ l.size * r.size) × LeastDepth s l r c a b d
  dropped_by zero a b o u f = absurd (false≢true (sym f ∙ (start_iff s c wl wr a b).1 (o, u)))
  dropped_by (suc k) a b o u f = last (after s l r c k a b) refl (dropped_by k a b o u)
    where
      last : (i : Bool) → after s l r c k a b ≡ i → (after s l r c k a b ≡ false → (d : ℕ) × (d ≤ l.size * r.size) × LeastDepth s l r c a b d)
          → (d : ℕ) × (d ≤ l.size * r.size) × LeastDepth s l r c a b d
      last true e before = let (q, p) = parted k a b (account k) e f in (suc k, round_most s c wl wr k a b e f, (parts_least k a b q e p).1)
      last false e before = before e

  -- a pair of nodes that the greatest does not hold was dropped by one of the first n × m rounds
  pub dropped : (a b : ℕ) → Node l a → Node r b → related (settled s l r c) a b ≡ false
      → (d : ℕ) × (d ≤ l.size * r.size) × LeastDepth s l r c a b d
  unfolding settled
  dropped = dropped_by (l.size * r.size)

  -- the greatest relates the pairs that keep every expression within the bound (positive ones, if one-sided)
  pub keep_iff : (a b : ℕ) → Node l a → Node r b
      → So (related (settled s l r c) a b) ↔ ((q : NodeExpr) → Within c q → Spoken s q → holds l q a ≡ true → holds r q b ≡ true)
  unfolding settled
  keep_iff a b o u = (
    λ e q w i h. keeps q (steady s l r c _ (greatest s c wl wr).is) w i (depth q) a b (le_refl _) e h,
    λ f. let (chi, d) = (account (l.size * r.size)).lefts in
        let t = d a o in t.only b u (f (chi a) t.within t.spoken t.own),
  )

-- two nodes are matched exactly when every expression within the bound has one truth at both
pub agree_iff : {l r : Graph} (c : ℕ) → WellFormed l → WellFormed r → (a b : ℕ) → Node l a → Node r b
    → So (matched l r c a b) ↔ ((q : NodeExpr) → Within c q → holds l q a ≡ holds r q b)
agree_iff c wl wr a b o u = (
  λ e q w. bisimulation_agrees (greatest two_sided c wl wr).is q w a b e,
  λ f. (keep_iff two_sided c wl wr a b o u).1 (λ q w _ h. rw (← f q w) h),
)
