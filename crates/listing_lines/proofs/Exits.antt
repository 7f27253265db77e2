-- What the writers of lines leave.
use mathlib.Core.Bool.{not}
use mathlib.Core.List.{List, ◌++◌, append-nil}
use mathlib.Core.Path.{◌≡◌, refl, sym}
use Prim.Native.Nat.{ℕ, suc, ◌+◌, ◌-◌, ◌*◌, ◌≤◌, ◌<◌}
use native.Mathlib.Nat.{suc-mul, mul-le-mul_right}
use native.Mathlib.Numerals.{add-one}
use native.Mathlib.Omega.{arith}
use lib.ListN.{length, take}
use Rattle.theory.specs.Bisimulation.{Relation}
use Rattle.compare_laws.specs.Places.{unparted}
use Rattle.words.specs.Words.{tally}
use Rattle.answers.specs.Row.{row_answer}
use Rattle.answers.specs.RowLaws.{Whole, row-given, row_answered}
use Rattle.answers.specs.declared.RowSet.{RowSet}
use Rattle.std.specs.Prelude.{Ok, IsOk}
use Rattle.text.specs.Text.{Wrote}
use Rattle.text.specs.Laws.{wrote_both, wrote_within}
use Rattle.listing_lines.specs.Lines.{row_line, total_line, cell_line, head_line, row_lines, pairs_in, pair_lines, head_most, row_most, total_most, pair_most, Sized, WroteRows}
use Rattle.listing_lines.specs.Laws.{pairs_in-not}

-- ---- a line of two or three numbers

module _ {out mid exit : List ℕ} {at to next : ℕ} {s t : List ℕ} {j k most : ℕ} where
  pub two-written : Wrote out at s j mid to → Wrote mid to t k exit next → j + k ≤ most → Wrote out at (s ++ t) most exit next
  two-written p q h = wrote_within h (wrote_both p q)

pub three_written : {out mid end exit : List ℕ} {at to till next : ℕ} {s t u : List ℕ} {j k l most : ℕ}
    → Wrote out at s j mid to → Wrote mid to t k end till → Wrote end till u l exit next → j + k + l ≤ most → Wrote out at (s ++ t ++ u) most exit next
three_written p q r h = wrote_within h (wrote_both (wrote_both p q) r)

-- ---- the line of a cell

module _ (map : List ℕ) (m i : ℕ) (w : Whole map m i) where
  pub cell_answered : IsOk (row_answer map m i)
  cell_answered = rw (row-given map m i w) refl

  pub cell_written : (r : RowSet) {out exit : List ℕ} {at end : ℕ} → row_answer map m i ≡ Ok r → Wrote out at (row_line i r.count r.word) row_most exit end
      → WroteRows out at (cell_line m (unparted m map) i) row_most (tally m (unparted m map i)) exit (record { end = end; matched = r.count })
  cell_written r {out} {exit} {at} {end} d w =
      let s = row_answered map m i r.word r.count d in
      record { wrote = rw (← s.is_word, ← s.is_count) w; counted = s.is_count }

-- ---- the lines of the cells, one turn at a time

-- those of the cells below i stand from `at` on
pub record Begun (out : List ℕ) (at : ℕ) (map : List ℕ) (n m : ℕ) (exit : List ℕ) (end matched i : ℕ) : Type 0 where
  pub lines : Wrote out at (row_lines i m (unparted m map)) (row_most * i) exit end
  pub counted : matched ≡ pairs_in i m (unparted m map)
  pub some : i ≤ n
  pub fits : at + row_most * n ≤ length out
  pub sized : Sized map n m

pairs_in_most : (n m : ℕ) (z : Relation) → pairs_in n m z ≤ n * m
pairs_in_most n m z = omega (arith, pairs_in-not n m z)

module _ (out : List ℕ) (at : ℕ) (map : List ℕ) (n m : ℕ) where
  pub rows_start : at + row_most * n ≤ length out → Sized map n m → Begun out at map n m out at 0 0
  unfolding row_lines pairs_in
  rows_start h s =
      record {
        lines = record { bytes = sym (append-nil (take at out)); size = refl; few = omega arith };
        counted = refl;
        some = omega arith;
        fits = h;
        sized = s;
      }

  module _ (mid : List ℕ) (end matched i : ℕ) (b : Begun out at map n m mid end matched i) where
    module _ (h : i < n) where
      rest : suc i * m ≤ n * m
      rest = mul-le-mul_right m h

      pub next_whole : Whole map m i
      next_whole = record { some = b.sized.some; most = b.sized.most; inside = omega (arith, b.sized.places, rest, suc-mul i m) }

      pub next_fits : end + row_most ≤ length mid
      next_fits = omega (arith, b.fits, b.lines.few, b.lines.size)

      module _ {exit : List ℕ} {e k : ℕ} (w : WroteRows mid end (cell_line m (unparted m map) i) row_most (tally m (unparted m map i)) exit (record { end = e; matched = k })) where
        next-counted : matched + k ≡ pairs_in (suc i) m (unparted m map)
        unfolding pairs_in
        next-counted = omega (arith, b.counted, w.counted)

        pub next_few : matched + k ≤ length map
        next_few = omega (arith, next-counted, pairs_in_most (suc i) m (unparted m map), rest, b.sized.places)

        pub rows_next : Begun out at map n m exit e (matched + k) (i + 1)
        unfolding row_lines
        rows_next =
            rw add-one
            (record {
              lines = wrote_within (omega arith) (wrote_both b.lines w.wrote);
              counted = next-counted;
              some = h;
              fits = b.fits;
              sized = b.sized;
            })

    pub rows_end : n ≤ i → WroteRows out at (row_lines n m (unparted m map)) (row_most * n) (pairs_in n m (unparted m map)) mid (record { end = end; matched = matched })
    rows_end h = let e : n ≡ i = omega (arith, b.some) in rw e (record { wrote = b.lines; counted = b.counted })

-- ---- the whole listing

module _ (map : List ℕ) (n m : ℕ) {mid more : List ℕ} {to end matched : ℕ}
    (w : WroteRows mid to (row_lines n m (unparted m map)) (row_most * n) (pairs_in n m (unparted m map)) more (record { end = end; matched = matched })) where
  parted_is : n * m - matched ≡ pairs_in n m (λ i j. not (unparted m map i j))
  parted_is = omega (arith, w.counted, pairs_in-not n m (unparted m map))

  pub matched_few : matched ≤ n * m
  matched_few = omega (arith, w.counted, pairs_in_most n m (unparted m map))

  pub pairs-written : (c : ℕ) {out exit : List ℕ} {at next : ℕ} → Wrote out at (head_line n m c) head_most mid to → Wrote more end (total_line matched (n * m - matched)) total_most exit next
      → Wrote out at (pair_lines n m c (unparted m map)) (pair_most n) exit next
  unfolding pair_lines
  pairs-written c h t = wrote_both (wrote_both h w.wrote) (rw (← w.counted, ← parted_is) t)
