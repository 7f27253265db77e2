-- What Compare says of a parted pair.
use Rattle.std.specs.Prelude.{List, ℕ, ◌≤◌, ◌<◌}
use Rattle.theory.specs.Bound.{depth}
use Rattle.theory.specs.Bisimulation.{Sides}
use Rattle.theory.specs.Parting.{Tells}
use Rattle.book.specs.declared.Hidden.{Hidden}
use Rattle.book.specs.BookGraph.{seen_of}
use Rattle.sheet.specs.Sheet.{count_of, question_of}
use Rattle.compare.specs.Compare.{pairs_of}

-- What is known of the question that the map names for a parted pair, where the sides x count: it is of the sheet; it "keeps to bound c, is true at left i, false at
-- right j", and one-way has no "not" (02, 2026-03), which is `Tells`; "and is no deeper than n × m".
pub record PartedBy (x : Sides) (l r : List ℕ) (c : ℕ) (hidden : Hidden) (sheet : List ℕ) (i j k : ℕ) : Type 0 where
  pub named : k < count_of sheet
  pub tells : Tells x (seen_of hidden.left l) (seen_of hidden.right r) c i j (question_of sheet k)
  pub shallow : depth (question_of sheet k) ≤ pairs_of l r
