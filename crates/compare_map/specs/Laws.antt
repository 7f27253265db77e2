-- What the rows and the columns tell: the pairs that the map has not parted, and at a round's start the relation that the round begins with.
use Rattle.std.specs.Prelude.{List, ◌≡◌, ℕ, ◌*◌, ◌≤◌, length, get_or}
use Rattle.std.proofs.Common.{ap, ◌∙◌, arith}
use Rattle.theory.specs.Bisimulation.{Relation, flip}
use Rattle.words.specs.Words.{bit}
use Rattle.words.specs.Laws.{bit-word_of-lt}
use Rattle.edges.specs.Laws.{rows_at}
use Rattle.answers.specs.Row.{zero_from, row_word}
use Rattle.compare_laws.specs.Places.{unparted, zeros}
use Rattle.compare_laws.proofs.PlaceLaws.{zeros-nonzeros}
use Rattle.compare_laws.specs.Setting.{Setting, relation_after}
use Rattle.compare_laws.specs.Comparison.{State}
use Rattle.compare_laws.specs.Refining.{Refined}
use Rattle.compare_map.specs.Relation.{Mapped, rows_of, column_of, columns_of, Tells}

-- the rows of a map tell the pairs that it has not parted
pub rows_tell : (map : List ℕ) (n m : ℕ) → Mapped map n m → Tells n m (unparted m map) (rows_of map n m)
unfolding rows_of
rows_tell map n m w =
    record {
      bits = λ x y o u.
          ap (λ (v : ℕ). bit v y) (rows_at 64 n (row_word map m) x (omega (arith, w.few)) o) ∙ bit-word_of-lt m (zero_from map (x * m)) y u;
    }

-- and the columns of rows the same relation from the right
pub columns_tell : (n m : ℕ) (z : Relation) (rows : List ℕ) → m ≤ 64 → Tells n m z rows → Tells m n (flip z) (columns_of rows n m)
unfolding columns_of column_of
columns_tell n m z rows h t =
    record {
      bits = λ y x u o.
          ap (λ (v : ℕ). bit v x) (rows_at 64 m (column_of rows n) y (omega arith) u)
          ∙ (bit-word_of-lt n (λ i. bit (get_or rows i 0) y) x o ∙ t.bits x y o u);
    }

-- At a round's start the rows of the map tell the relation that the round begins with, for as long as the round lasts.
pub rows-begin : {s : Setting} {k : ℕ} {now : State} (n m : ℕ) → n ≡ s.left.size → m ≡ s.right.size → Mapped now.map n m
    → Refined s k 0 now → Tells n m (relation_after s k) (rows_of now.map n m)
rows-begin {now = now} n m left right w inv =
    record {
      bits = λ x y o u.
          (rows_tell now.map n m w).bits x y o u
          ∙ rw right (inv.waiting x y (omega arith) (omega arith) (omega arith));
    }

-- a map has at most as many zeros as places
pub zeros_most : (map : List ℕ) → zeros map ≤ length map
zeros_most map = omega (arith, zeros-nonzeros map)
