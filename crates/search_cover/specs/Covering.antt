-- Tables with one class a cell, and what a quick decision says of all paths of at most c links.
use Rattle.std.proofs.Math.Bool.{So}
use Rattle.std.specs.Prelude.{◌≡◌, List, ℕ, ◌≤◌, ◌<◌, length, get_or}
use Rattle.words.specs.Words.{bit}
use Rattle.search_links.specs.Hops.{View, label_of, to_of}
use Rattle.search_tables.specs.Tips.{Has, Covered}
use Rattle.search_steps.specs.Paths.{Leaves, Trail, step_word}
use Rattle.search_pairs.specs.Pairs.{failure}

-- A table of 64 classes, of which class e has no other node than e.
pub record Celled (ls rs : List ℕ) : Type 0 where
  pub left : length ls ≡ 64
  pub right : length rs ≡ 64
  pub only : (e x : ℕ) → e < 64 → So (bit (get_or ls e 0) x) → x ≡ e

-- The table covers what it covered, and the tip (y, o).
pub record Cut (ls rs : List ℕ) (y o : ℕ) (ls' rs' : List ℕ) : Type 0 where
  pub celled : Celled ls' rs'
  pub kept : (x w : ℕ) → Has ls rs 64 x w → Covered ls' rs' 64 x w
  pub new : Covered ls' rs' 64 y o

-- The table covers what it covered, and the tips one link beyond the tip (x, w).
pub record BeyondTip (v u : View) (z : List ℕ) (x w : ℕ) (ls rs ls' rs' : List ℕ) : Type 0 where
  pub celled : Celled ls' rs'
  pub kept : (a o : ℕ) → Has ls rs 64 a o → Covered ls' rs' 64 a o
  pub whole : (k : ℕ) → Leaves v x k → Covered ls' rs' 64 (to_of v k) (step_word u z w (label_of v k) (to_of v k))

-- The table covers what it covered, and the tips one link beyond those of the first n classes of another.
pub record BeyondCells (v u : View) (z l r : List ℕ) (n : ℕ) (ls rs ls' rs' : List ℕ) : Type 0 where
  pub celled : Celled ls' rs'
  pub kept : (a o : ℕ) → Has ls rs 64 a o → Covered ls' rs' 64 a o
  pub whole : (a o k : ℕ) → Has l r n a o → Leaves v a k → Covered ls' rs' 64 (to_of v k) (step_word u z o (label_of v k) (to_of v k))

-- No two paths of at most c links from x fail.
pub record NoneFails (v u : View) (z ea eb : List ℕ) (x y c : ℕ) : Type 0 where
  pub each : (p q : List ℕ) → Trail v x p → length p ≤ c → Trail v x q → length q ≤ c → failure v u z ea eb x y p q ≡ 0
