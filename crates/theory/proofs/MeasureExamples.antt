-- Worked lengths, bounds and depths: the examples of 000, section 5.1, and 01's sentences ("Questions"), each as a row.
use Rattle.std.specs.Prelude.{◌≡◌, refl, List, [], ◌∷◌, map, ℕ, zero, suc}
use Rattle.theory.specs.Graph.{same, differ}
use Rattle.theory.specs.Expression.{PathExpr, NodeExpr, stay, step, test, seq, union, neg, conj, disj, exists, compare, always}
use Rattle.theory.specs.Bound.{len, ml, depth}

-- A path expression with its length.
pub record PathRow : Type 0 where
  pub path : PathExpr
  pub length : ℕ

-- A node expression with its maximum length (000, definition 12) and its depth.
pub record NodeRow : Type 0 where
  pub expression : NodeExpr
  pub longest : ℕ
  pub deep : ℕ

-- the row of a path expression
abbrev way : PathExpr → ℕ → PathRow
way w n = record { path = w; length = n }

-- the row of a node expression
abbrev row : NodeExpr → ℕ → ℕ → NodeRow
row q m d = record { expression = q; longest = m; deep = d }

-- n steps
unfoldable pub steps : ℕ → PathExpr
steps zero = stay
steps (suc n) = seq (step 1) (steps n)

-- a same of maximum length m and depth d + 1: one way of m steps, and one that tests for a way of d
abbrev pub sized : ℕ → ℕ → NodeExpr
sized m d = compare same (steps m) (test (exists (steps d)))

-- The lengths.
unfoldable pub ways : List PathRow
ways =
    way stay 0
    ∷ way (step 1) 1
    -- 000: len(↓a[⟨↓b = ↓a↓b↓c⟩]↓b) = len(↓a↓b) = 2
    ∷ way (seq (step 1) (seq (test (compare same (step 2) (seq (step 1) (seq (step 2) (step 3))))) (step 2))) 2
    -- "of a choice, the larger"
    ∷ way (union (steps 1) (steps 2)) 2
    ∷ way (union (steps 2) (steps 1)) 2
    ∷ []

-- The maximum lengths and the depths.
unfoldable pub rows : List NodeRow
rows =
    -- "always true 0; not, the same"
    row always 0 0
    ∷ row (neg (sized 2 1)) 2 2
    -- "and, or, .. the larger", on either side
    ∷ row (conj (sized 1 2) (sized 2 1)) 2 3
    ∷ row (conj (sized 2 1) (sized 1 2)) 2 3
    ∷ row (disj (sized 1 2) (sized 2 1)) 2 3
    ∷ row (disj (sized 2 1) (sized 1 2)) 2 3
    -- "'There is a way' is not limited"; "stay 0; a step adds 1 to the depth of what follows it"
    ∷ row (exists (steps 3)) 0 3
    ∷ row (exists (seq (step 1) (test (sized 2 1)))) 2 3
    -- "a test at the present cell, the larger of its depth and the rest's"
    ∷ row (exists (seq (test (sized 2 1)) (test (sized 1 2)))) 2 3
    ∷ row (exists (seq (test (sized 1 2)) (test (sized 2 1)))) 2 3
    ∷ row (exists (seq (test (sized 1 0)) (steps 2))) 1 2
    -- ".. choice, the larger", here before what follows
    ∷ row (exists (seq (union (steps 2) (steps 1)) (step 1))) 0 3
    ∷ row (exists (union (test (sized 1 2)) (test (sized 2 1)))) 2 3
    ∷ row (exists (union (test (sized 2 1)) (test (sized 1 2)))) 2 3
    -- "a same or differ: 1 + the largest depth of its tests (1 if none)", and its steps do not count in the depth
    ∷ row (compare same (steps 1) (steps 2)) 2 1
    ∷ row (compare differ (steps 2) (steps 1)) 2 1
    ∷ row (compare same (seq (test (sized 1 2)) (test (sized 2 1))) stay) 2 4
    ∷ row (compare same stay (seq (test (sized 2 1)) (test (sized 1 2)))) 2 4
    ∷ row (compare differ (test (sized 1 2)) (test (sized 2 1))) 2 4
    ∷ row (compare differ (union (test (sized 1 2)) (test (sized 2 1))) stay) 2 4
    -- tests start a fresh count: both lengths keep to 2, and 4 steps lie one inside the other
    ∷ row (compare same (seq (steps 2) (test (sized 2 0))) stay) 2 2
    -- 000: ml(⟨↓a[⟨↓b↓a↓c⟩]↓b = ↓b[⟨↓a↓b↓a↓b⟩]⟩) = 2
    ∷ row (compare same (seq (step 1) (seq (test (exists (seq (step 2) (seq (step 1) (step 3))))) (step 2)))
    (seq (step 2) (test (exists (seq (step 1) (seq (step 2) (seq (step 1) (step 2)))))))) 2 5
    ∷ []

-- Every row is as the definitions compute it.
pub lengths : map (λ (r : PathRow). len r.path) ways ≡ map (λ (r : PathRow). r.length) ways
unfolding ways steps len
lengths = refl

pub maximum_lengths : map (λ (r : NodeRow). ml r.expression) rows ≡ map (λ (r : NodeRow). r.longest) rows
unfolding rows steps len ml
maximum_lengths = refl

pub depths : map (λ (r : NodeRow). depth r.expression) rows ≡ map (λ (r : NodeRow). r.deep) rows
unfolding rows steps depth
depths = refl
