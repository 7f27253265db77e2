-- What an expression means depends on the comparisons among the nodes alone.
use Rattle.std.specs.Prelude.{Bool, not, ◌&&◌, ◌||◌, ◌≡◌, refl, ℕ, ◌<◌, eqb}
use Rattle.std.proofs.Common.{ap, ap₂}
use Rattle.theory.proofs.TestLaws.{any_ext}
use Rattle.theory.specs.Graph.{Comparison, Graph}
use Rattle.theory.specs.Expression.{PathExpr, NodeExpr, stay, step, test, seq, union, neg, conj, disj, exists, compare}
use Rattle.theory.specs.Meaning.{reach, holds}

module _ (g : Graph) (ends : Comparison → ℕ → ℕ → Bool) (agree : (t : Comparison) (y z : ℕ) → y < g.size → z < g.size → g.ends t y z ≡ ends t y z) where
  -- The graph with these comparisons.
  abbrev other : Graph
  other = record { size = g.size; shown = g.shown; links = g.links; ends = ends }

  mutual
    unfolding reach holds

    reach_alike : (w : PathExpr) (x y : ℕ) → reach g w x y ≡ reach other w x y
    reach_alike stay x y = refl
    reach_alike (step a) x y = refl
    reach_alike (test q) x y = ap (λ b. eqb x y && b) (holds_alike q x)
    reach_alike (seq w v) x z = any_ext g.size _ _ (λ y l. ap₂ ◌&&◌ (reach_alike w x y) (reach_alike v y z))
    reach_alike (union w v) x y = ap₂ ◌||◌ (reach_alike w x y) (reach_alike v x y)

    pub holds_alike : (q : NodeExpr) (x : ℕ) → holds g q x ≡ holds other q x
    holds_alike (exists w) x = any_ext g.size _ _ (λ y l. reach_alike w x y)
    holds_alike (compare t w v) x =
        any_ext g.size _ _ (λ y l. ap₂ ◌&&◌ (reach_alike w x y) (any_ext g.size _ _ (λ z m. ap₂ ◌&&◌ (reach_alike v x z) (agree t y z l m))))
    holds_alike (conj q p) x = ap₂ ◌&&◌ (holds_alike q x) (holds_alike p x)
    holds_alike (disj q p) x = ap₂ ◌||◌ (holds_alike q x) (holds_alike p x)
    holds_alike (neg q) x = ap not (holds_alike q x)
