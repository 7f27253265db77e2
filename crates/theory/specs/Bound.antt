-- Length, bound and depth of expressions (01, "Questions"; source 000, definition 12).
use Rattle.std.specs.Prelude.{ℕ, suc, ◌+◌, max, ◌≤◌}
use Rattle.theory.specs.Expression.{PathExpr, NodeExpr, stay, step, test, seq, union, neg, conj, disj, exists, compare}

-- "Length of a way: its steps outside tests; of a choice, the larger" (000: len).
unfoldable pub len : PathExpr → ℕ
len stay = 0
len (step a) = 1
len (test q) = 0
len (seq w v) = len w + len v
len (union w v) = max (len w) (len v)

-- "A question keeps to bound c when in every same or differ in it, at any nesting, both ways have length at most c."
unfoldable mutual
  pub WithinPath : ℕ → PathExpr → Type 0
  WithinPath c stay = Unit {0}
  WithinPath c (step a) = Unit {0}
  WithinPath c (test q) = Within c q
  WithinPath c (seq w v) = WithinPath c w × WithinPath c v
  WithinPath c (union w v) = WithinPath c w × WithinPath c v

  pub Within : ℕ → NodeExpr → Type 0
  Within c (neg q) = Within c q
  Within c (conj q p) = Within c q × Within c p
  Within c (disj q p) = Within c q × Within c p
  Within c (exists w) = WithinPath c w
  Within c (compare t w v) = (len w ≤ c) × (len v ≤ c) × WithinPath c w × WithinPath c v

-- The maximum length of 000, definition 12; "choice and or take the larger, which 000 leaves out" (01).
unfoldable mutual
  pub ml_path : PathExpr → ℕ
  ml_path stay = 0
  ml_path (step a) = 0
  ml_path (test q) = ml q
  ml_path (seq w v) = max (ml_path w) (ml_path v)
  ml_path (union w v) = max (ml_path w) (ml_path v)

  pub ml : NodeExpr → ℕ
  ml (neg q) = ml q
  ml (conj q p) = max (ml q) (ml p)
  ml (disj q p) = max (ml q) (ml p)
  ml (exists w) = ml_path w
  ml (compare t w v) = max (max (len w) (len v)) (max (ml_path w) (ml_path v))

-- Depth. `depth_before w d` is the depth of "there is a way w, then something of depth d"; `test_depth w` the largest depth of w's tests.
unfoldable mutual
  pub depth_before : PathExpr → ℕ → ℕ
  depth_before stay d = d
  depth_before (step a) d = suc d
  depth_before (test q) d = max (depth q) d
  depth_before (seq w v) d = depth_before w (depth_before v d)
  depth_before (union w v) d = max (depth_before w d) (depth_before v d)

  pub test_depth : PathExpr → ℕ
  test_depth stay = 0
  test_depth (step a) = 0
  test_depth (test q) = depth q
  test_depth (seq w v) = max (test_depth w) (test_depth v)
  test_depth (union w v) = max (test_depth w) (test_depth v)

  -- "Always true 0; not, the same; and, or, choice, the larger. A same or differ: 1 + the largest depth of its tests."
  pub depth : NodeExpr → ℕ
  depth (neg q) = depth q
  depth (conj q p) = max (depth q) (depth p)
  depth (disj q p) = max (depth q) (depth p)
  depth (exists w) = depth_before w 0
  depth (compare t w v) = suc (max (test_depth w) (test_depth v))
