-- What the theory proves of two graphs whose links stay among their nodes, at any bound c.
-- The steps to it, each file beginning with its argument: `InvarianceLaws` (related nodes keep what expressions say), `ClauseLaws` (the Boolean clauses
-- are the clauses), `GreatestLaws` (the rounds settle to the greatest), `PartingLaws` (from a clause that fails to an expression), `DescribingLaws`
-- (what a round drops, an expression of its depth tells apart).
-- What a search rests on: `ChoosingLaws` (the reason that comes first), `RowLaws` (rows of a round are equal or disjoint), `CoveringLaws` (which paths
-- are enough for the clause for two paths).
use Rattle.std.specs.Prelude.{Bool, true, false, not, ◌↔◌, ◌≡◌, refl, ℕ, ◌*◌, ◌<◌, ◌≤◌}
use Rattle.std.proofs.Common.{sym, ap, ◌∙◌, arith}
use Rattle.theory.specs.Graph.{Graph, Node, WellFormed}
use Rattle.theory.specs.Expression.{NodeExpr, neg}
use Rattle.theory.specs.Meaning.{holds}
use Rattle.theory.specs.Bound.{Within, depth}
use Rattle.theory.specs.Bisimulation.{Pairs, pairs, Sides, two_sided, Bisimulation, Greatest}
use Rattle.theory.specs.Rounds.{related, settled, matched}
use Rattle.theory.specs.Parting.{Tells, LeastDepth}
use Rattle.theory.proofs.TestLaws.{test_fails}
use Rattle.theory.proofs.ClauseLaws.{apart}
use Rattle.theory.proofs.GreatestLaws.{greatest}
use Rattle.theory.proofs.DescribingLaws.{agree_iff, keep_iff, dropped}

module _ {l r : Graph} (c : ℕ) (wl : WellFormed l) (wr : WellFormed r) where
  -- Demand 2: the matched pairs are the greatest bisimulation for the bound. They form one, and every other lies within, computed or not.
  pub matched_greatest : Greatest two_sided l r c (matched l r c)
  matched_greatest = greatest two_sided c wl wr

  -- "The greatest is the union of all": a pair is matched exactly when some bisimulation holds it.
  pub matched_union : (a b : ℕ) → (matched l r c a b ≡ true) ↔ ((y : Pairs) × Bisimulation l r c y × y a b)
  matched_union a b = (λ e. (pairs (matched l r c), matched_greatest.is, e), λ (y, m, e). matched_greatest.most y m a b e)

  -- "The empty relation is one."
  pub empty_is : Bisimulation l r c (λ a b. ⊥)
  empty_is = record {
    forth = record { left = λ a b e. absurd e; right = λ a b e. absurd e; zig = λ a b e. absurd e };
    back = record { left = λ a b e. absurd e; right = λ a b e. absurd e; zig = λ a b e. absurd e };
  }

  module _ (a b : ℕ) (left : Node l a) (right : Node r b) where
    -- Demand 3: a pair is matched exactly when every node expression within the bound, of any size, has one truth at both nodes.
    pub matched_agrees : (matched l r c a b ≡ true) ↔ ((q : NodeExpr) → Within c q → holds l q a ≡ holds r q b)
    matched_agrees = agree_iff c wl wr a b left right

module _ (s : Sides) {l r : Graph} (c : ℕ) (wl : WellFormed l) (wr : WellFormed r) (a b : ℕ) (left : Node l a) (right : Node r b) where
  -- A parted pair has a node expression within the bound (one-sided, without "not") that is true left and false right, and so a smallest depth of those.
  pub parted_least : related (settled s l r c) a b ≡ false → (d : ℕ) × LeastDepth s l r c a b d
  parted_least f = let (d, _, least) = dropped s c wl wr a b left right f in (d, least)

  -- Where there is such an expression, there is one no deeper than n × m, the sizes multiplied: the pair is none of the greatest, so that one of the first n × m
  -- rounds drops it.
  pub told_shallow : (q : NodeExpr) → Tells s l r c a b q → (p : NodeExpr) × Tells s l r c a b p × (depth p ≤ l.size * r.size)
  told_shallow q t =
      let f = test_fails _ _ (λ e. (keep_iff s c wl wr a b left right).0 e q t.within t.spoken t.left) t.right in
      let (d, i, least) = dropped s c wl wr a b left right f in
      let (p, u, e) = least.some in
      (p, u, omega arith)

  -- So the smallest depth is at most n × m.
  pub least_shallow : (d : ℕ) → LeastDepth s l r c a b d → d ≤ l.size * r.size
  least_shallow d h =
      let (q, t, _) = h.some in
      let (p, u, i) = told_shallow q t in
      omega (arith, h.least p u)

-- There is one smallest depth.
pub least_unique : {s : Sides} {l r : Graph} {c a b d e : ℕ} → LeastDepth s l r c a b d → LeastDepth s l r c a b e → d ≡ e
least_unique h k =
    let (q, t, _) = h.some in
    let (p, u, _) = k.some in
    omega (arith, h.least p u, k.least q t)

-- Two-sided no expression within the bound that is less deep tells the nodes apart the other way round either: its denial is as deep.
pub simpler_agree : {l r : Graph} {c a b d : ℕ} → LeastDepth two_sided l r c a b d → (q : NodeExpr) → Within c q → depth q < d → holds l q a ≡ holds r q b
unfolding holds Within depth
simpler_agree {l} {r} {c} {a} {b} {d} h q w i = go (holds l q a) (holds r q b) refl refl
  where
    go : (x y : Bool) → holds l q a ≡ x → holds r q b ≡ y → holds l q a ≡ holds r q b
    go true true e f = e ∙ sym f
    go false false e f = e ∙ sym f
    go true false e f = absurd (omega (arith, h.least q (record { within = w; spoken = λ e. apart e refl; left = e; right = f })))
    go false true e f = absurd (omega (arith, h.least (neg q) (record { within = w; spoken = λ e. apart e refl; left = ap not e; right = ap not f })))
