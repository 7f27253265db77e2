-- What path and node expressions mean (source 000, figure 3, in its order, with `disj`), as tests.
-- `Figure3Laws` proves that each test says its line of the figure.
use Rattle.std.specs.Prelude.{Bool, not, ◌&&◌, ◌||◌, ℕ, eqb}
use Rattle.theory.specs.Search.{any}
use Rattle.theory.specs.Graph.{Graph, linked}
use Rattle.theory.specs.Expression.{PathExpr, NodeExpr, stay, step, test, seq, union, neg, conj, disj, exists, compare}

unfoldable mutual
  -- (x, y) ∈ ⟦w⟧ (01: y is an end of the way w from x)
  pub reach : Graph → PathExpr → ℕ → ℕ → Bool
  reach g stay x y = eqb x y
  reach g (step a) x y = linked g x a y
  reach g (test q) x y = eqb x y && holds g q x
  reach g (seq w v) x z = any g.size (λ y. reach g w x y && reach g v y z)
  reach g (union w v) x y = reach g w x y || reach g v x y

  -- x ∈ ⟦q⟧, for a node x of g (01: the question q is true at x)
  pub holds : Graph → NodeExpr → ℕ → Bool
  holds g (exists w) x = any g.size (λ y. reach g w x y)
  holds g (compare t w v) x =
      any g.size (λ y. reach g w x y && any g.size (λ z. reach g v x z && g.ends t y z))
  holds g (conj q p) x = holds g q x && holds g p x
  holds g (disj q p) x = holds g q x || holds g p x
  holds g (neg q) x = not (holds g q x)
