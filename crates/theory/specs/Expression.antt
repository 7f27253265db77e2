-- The language (source 000, section 2): path expressions (01: ways) and node expressions (01: questions).
use Rattle.std.specs.Prelude.{ℕ}
use Rattle.theory.specs.Graph.{Comparison}

mutual
  -- ε, ↓a, [φ], αβ, α ∪ β (01: stay, one step along a label, a test, one way after another, a choice of two ways)
  pub data PathExpr : Type 0 where
    stay : PathExpr
    step : ℕ → PathExpr
    test : NodeExpr → PathExpr
    seq : PathExpr → PathExpr → PathExpr
    union : PathExpr → PathExpr → PathExpr

  -- ¬φ, φ ∧ ψ, φ ∨ ψ, ⟨α⟩, and ⟨α = β⟩ or ⟨α ≠ β⟩ (01: not, and, or, "there is a way w", "same: w, v" or "differ: w, v")
  pub data NodeExpr : Type 0 where
    neg : NodeExpr → NodeExpr
    conj : NodeExpr → NodeExpr → NodeExpr
    disj : NodeExpr → NodeExpr → NodeExpr
    exists : PathExpr → NodeExpr
    compare : Comparison → PathExpr → PathExpr → NodeExpr

-- 01: always true, "there is a way: stay".
abbrev pub always : NodeExpr
always = exists stay

-- Expressions with no negation in them (000, section 2).
unfoldable mutual
  pub PositivePath : PathExpr → Type 0
  PositivePath stay = Unit {0}
  PositivePath (step a) = Unit {0}
  PositivePath (test q) = Positive q
  PositivePath (seq w v) = PositivePath w × PositivePath v
  PositivePath (union w v) = PositivePath w × PositivePath v

  pub Positive : NodeExpr → Type 0
  Positive (neg q) = ⊥
  Positive (conj q p) = Positive q × Positive p
  Positive (disj q p) = Positive q × Positive p
  Positive (exists w) = PositivePath w
  Positive (compare t w v) = PositivePath w × PositivePath v
