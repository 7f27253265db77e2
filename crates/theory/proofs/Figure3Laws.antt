-- Source 000, figure 3, line by line: what each test of `Meaning` says at a node x of g, whose links stay among its nodes. (Where a path expression leads from
-- a node is a node: `end_node`.)
use Rattle.std.proofs.Math.Bool.{So}
use Rattle.std.specs.Prelude.{◌≡◌, ◌↔◌, ◌⊎◌, ℕ}
use mathlib.Core.List.{List, Memᴰ}
use Rattle.theory.specs.Graph.{Comparison, same, differ, Graph, Node, Link, link, compared, data_graph, Inside, WellFormed}
use Rattle.theory.specs.Expression.{PathExpr, NodeExpr, stay, step, test, seq, union, neg, conj, disj, exists, compare}
use Rattle.theory.specs.Meaning.{reach, holds}
use Rattle.theory.proofs.TestLaws.{eqb_iff, and_iff, or_iff, not_iff, any_iff}
use Rattle.theory.proofs.WalkLaws.{has_iff, data_formed, walk_node}
use Rattle.theory.proofs.FitLaws.{reach_fits}

-- There are y and z among the nodes of g, the ends of w and of v from x, with the property.
abbrev Ends : Graph → PathExpr → PathExpr → ℕ → (ℕ → ℕ → Type 0) → Type 0
Ends g w v x P = (y : ℕ) × Node g y × So (reach g w x y) × (z : ℕ) × Node g z × So (reach g v x z) × P y z

-- ⟦α⟧ ⊆ G × G
pub end_node : {g : Graph} → WellFormed g → (w : PathExpr) (x y : ℕ) → Node g x → So (reach g w x y) → Node g y
end_node {g} f w x y node e = let p = reach_fits g w x y e in rw p.ends at (walk_node f x p.path node p.walk)

module _ (g : Graph) (f : WellFormed g) (x : ℕ) (node : Node g x) where
  -- ⟦ε⟧ = {(x, x) | x ∈ G}
  pub stay_says : (y : ℕ) → So (reach g stay x y) ↔ (x ≡ y)
  unfolding reach
  stay_says y = eqb_iff x y

  -- ⟦↓a⟧ = {(x, y) | (x, a, y) ∈ E}
  pub step_says : (a y : ℕ) → So (reach g (step a) x y) ↔ Memᴰ (link x a y) g.links
  unfolding reach
  step_says a y = has_iff g.links x a y

  -- ⟦[φ]⟧ = {(x, x) | x ∈ ⟦φ⟧}
  pub test_says : (q : NodeExpr) (y : ℕ) → So (reach g (test q) x y) ↔ ((x ≡ y) × So (holds g q x))
  unfolding reach
  test_says q y = simp (and_iff, eqb_iff) ((λ t. t), (λ t. t))

  -- ⟦αβ⟧ = {(x, z) | ∃y : (x, y) ∈ ⟦α⟧, (y, z) ∈ ⟦β⟧}
  pub seq_says : (w v : PathExpr) (z : ℕ) → So (reach g (seq w v) x z) ↔ ((y : ℕ) × Node g y × So (reach g w x y) × So (reach g v y z))
  unfolding reach
  seq_says w v z = simp (any_iff, and_iff) (λ (y, _, (i, j)). (y, end_node f w x y node i, i, j), λ (y, o, i, j). (y, o.below, (i, j)))

  -- ⟦α ∪ β⟧ = ⟦α⟧ ∪ ⟦β⟧
  pub union_says : (w v : PathExpr) (y : ℕ) → So (reach g (union w v) x y) ↔ (So (reach g w x y) ⊎ So (reach g v x y))
  unfolding reach
  union_says w v y = or_iff _ _

  -- ⟦⟨α⟩⟧ = {x ∈ G | ∃y : (x, y) ∈ ⟦α⟧}
  pub exists_says : (w : PathExpr) → So (holds g (exists w) x) ↔ ((y : ℕ) × Node g y × So (reach g w x y))
  unfolding holds
  exists_says w = simp any_iff (λ (y, _, i). (y, end_node f w x y node i, i), λ (y, o, i). (y, o.below, i))

  -- ⟦⟨α ⋆ β⟩⟧ = {x ∈ G | ∃y, z : (x, y) ∈ ⟦α⟧, (x, z) ∈ ⟦β⟧, y and z pass ⋆}
  pub compare_says : (t : Comparison) (w v : PathExpr) → So (holds g (compare t w v) x) ↔ Ends g w v x (λ y z. So (g.ends t y z))
  unfolding holds
  compare_says t w v =
      simp (any_iff, and_iff) (
        λ (y, _, (i, (z, _, (j, e)))). (y, end_node f w x y node i, i, z, end_node f v x z node j, j, e),
        λ (y, o, i, z, u, j, e). (y, o.below, (i, (z, u.below, (j, e)))),
      )

  -- ⟦φ ∧ ψ⟧ = ⟦φ⟧ ∩ ⟦ψ⟧
  pub conj_says : (q p : NodeExpr) → So (holds g (conj q p) x) ↔ (So (holds g q x) × So (holds g p x))
  unfolding holds
  conj_says q p = and_iff _ _

  -- 01: "or", which the figure leaves out, is true where either part is
  pub disj_says : (q p : NodeExpr) → So (holds g (disj q p) x) ↔ (So (holds g q x) ⊎ So (holds g p x))
  unfolding holds
  disj_says q p = or_iff _ _

  -- ⟦¬φ⟧ = G ∖ ⟦φ⟧
  pub neg_says : (q : NodeExpr) → So (holds g (neg q) x) ↔ (So (holds g q x) → ⊥)
  unfolding holds
  neg_says q = not_iff _

-- data(y) = data(z), and data(y) ≠ data(z)
module _ (n : ℕ) (ks : List Link) (value : ℕ → ℕ) (h : Inside n ks) (x : ℕ) (node : Node (data_graph n ks value) x) (w v : PathExpr) where
  pub same_says : So (holds (data_graph n ks value) (compare same w v) x) ↔ Ends (data_graph n ks value) w v x (λ y z. value y ≡ value z)
  unfolding compared
  same_says = simp (compare_says (data_graph n ks value) (data_formed n ks value h) x node, eqb_iff) ((λ t. t), (λ t. t))

  pub differ_says : So (holds (data_graph n ks value) (compare differ w v) x) ↔ Ends (data_graph n ks value) w v x (λ y z. value y ≡ value z → ⊥)
  unfolding compared
  differ_says = simp (compare_says (data_graph n ks value) (data_formed n ks value h) x node, not_iff, eqb_iff) ((λ t. t), (λ t. t))
