-- What each turn and each way out of the functions shows of the definitions of `specs/`. The numbers that the code computed are variables
-- here, with what is known of them, so that `search` finds them in a need's record.
use mathlib.Core.Bool.{Bool, false, So, cond}
use mathlib.Core.List.{List, [], ◌∷◌}
use mathlib.Core.Logic.{⊎_elim}
use mathlib.Core.Path.{◌≡◌, refl, sym, ap, ◌∙◌}
use Prim.Native.Nat.{ℕ, zero, suc, ◌+◌, ◌-◌, ◌/◌, ◌%◌, ◌^◌, ◌≤◌, ◌<◌}
use native.Mathlib.Nat.{eq-or-lt_of_le}
use native.Mathlib.Omega.{arith}
use borrow.Author.Tests.{ne_eqb}
use lib.Bits.{bit_or}
use lib.Dec.{eqb}
use lib.ListN.{length, get_or, set, replicate, length-set}
use lib.Seq.{ext_get_or, get_or-set_same, get_or-set_other}
use Rattle.std.specs.List.{count_by}
use Rattle.std.proofs.lemmas.List.Recursion.{is_count_by}
use Rattle.theory.specs.Search.{list}
use Rattle.theory.proofs.TestLaws.{list_at, length-list}
use Rattle.words.specs.Words.{bit, word_of}
use Rattle.words.specs.Laws.{word-in, word_out}
use Rattle.book.specs.BookGraph.{showing}
use Rattle.sheet.specs.Sheet.{hidden_place}
use Rattle.edges.specs.Edges.{empty_rows}
use Rattle.edges.specs.Laws.{rows_none, rows_more}
use Rattle.answers.specs.Row.{row_word, row_answer, word_in}
use Rattle.answers.specs.RowLaws.{row-given}
use Rattle.compare_laws.specs.Places.{start_at, zeros}
use Rattle.compare_laws.proofs.PlaceLaws.{place_below}
use Rattle.compare_map.specs.Relation.{Mapped, rows_of, column_of, columns_of}

-- ---- the rows
module _ (map : List ℕ) (m : ℕ) where
  pub rows_start : replicate 64 0 ≡ rows_of map 0 m
  unfolding rows_of empty_rows
  rows_start = rows_none 64 _

  module _ (n i : ℕ) (rows : List ℕ) (inv : rows ≡ rows_of map i m) where
    pub rows_next : Mapped map n m → i < n → (v : ℕ) → v ≡ word_in (row_answer map m i) → set rows i v ≡ rows_of map (i + 1) m
    unfolding rows_of
    rows_next w h v d =
        let e : v ≡ row_word map m i = d ∙ ap word_in (row-given map m i (record {
          some = w.some;
          most = w.most;
          inside = omega (arith, w.size, w.some, place_below n m i (m - 1) h (omega (arith, w.some)));
        })) in
        rw (inv, e) (rows_more 64 i (row_word map m))

    pub rows_all : i ≤ n → n ≤ i → rows ≡ rows_of map n m
    rows_all h l = let e : i ≡ n = omega arith in rw e at inv

-- ---- a column
module _ (rows : List ℕ) where
  module _ (j : ℕ) where
    pub column_start : 0 ≡ column_of rows 0 j
    unfolding column_of word_of
    column_start = refl

    module _ (i out next : ℕ) (inv : out ≡ column_of rows i j) (b : Bool) (d : b ≡ bit (get_or rows i 0) j) where
      pub column_more : So b → (joined : ℕ) → joined ≡ bit_or out (2 ^ i) → next ≡ joined → next ≡ column_of rows (i + 1) j
      unfolding column_of
      column_more e = word-in (λ i. bit (get_or rows i 0) j) i out next inv (sym d ∙ e)

      pub column_skip : b ≡ false → next ≡ out → next ≡ column_of rows (i + 1) j
      unfolding column_of
      column_skip e = word_out (λ i. bit (get_or rows i 0) j) i out next inv (sym d ∙ e)

    pub column_all : (n i out : ℕ) → out ≡ column_of rows i j → i ≤ n → n ≤ i → out ≡ column_of rows n j
    column_all n i out inv h l = let e : i ≡ n = omega arith in rw e at inv

  -- ---- the columns
  module _ (n : ℕ) where
    pub columns_start : replicate 64 0 ≡ columns_of rows n 0
    unfolding columns_of empty_rows
    columns_start = rows_none 64 _

    module _ (j : ℕ) (columns : List ℕ) (inv : columns ≡ columns_of rows n j) where
      pub columns_next : (v : ℕ) → v ≡ column_of rows n j → set columns j v ≡ columns_of rows n (j + 1)
      unfolding columns_of
      columns_next v d = rw (inv, d) (rows_more 64 j (column_of rows n))

      pub columns_all : (m : ℕ) → j ≤ m → m ≤ j → columns ≡ columns_of rows n m
      columns_all m h l = let e : j ≡ m = omega arith in rw e at inv

-- ---- the zeros

pub zeros_counted : (map : List ℕ) → zeros map ≡ count_by (λ v. eqb v 0) map
unfolding zeros
zeros_counted = is_count_by zeros (λ v. eqb v 0) zeros_none zeros_more
  where
    zeros_none : zeros [] ≡ 0
    zeros_none = refl

    zeros_more : (x : ℕ) (xs : List ℕ) → zeros (x ∷ xs) ≡ cond (eqb x 0) (1 + zeros xs) (zeros xs)
    zeros_more zero xs = omega arith
    zeros_more (suc x) xs = rw (ne_eqb (suc x) 0 (λ e. omega arith))

-- ---- a list made from the front

-- The first n numbers are there, and are what f gives.
pub record Made (f : ℕ → ℕ) (n : ℕ) (xs : List ℕ) : Type 0 where
  pub wide : n ≤ length xs
  pub each : (x : ℕ) → x < n → get_or xs x 0 ≡ f x

module _ (f : ℕ → ℕ) where
  pub made_none : (xs : List ℕ) → Made f 0 xs
  made_none xs = record { wide = omega arith; each = λ x h. absurd (omega arith) }

  pub made_more : (k : ℕ) (xs : List ℕ) → Made f k xs → k < length xs → (v : ℕ) → v ≡ f k → Made f (k + 1) (set xs k v)
  made_more k xs b h v d =
      record {
        wide = rw length-set (omega arith);
        each = λ x l. ⊎_elim
            (λ e. rw e (get_or-set_same xs k v 0 h ∙ d))
            (λ o. get_or-set_other xs k x v 0 (λ e. omega arith) ∙ b.each x o)
            (eq-or-lt_of_le (omega arith));
      }

  pub made_all : (k : ℕ) (xs xs₀ : List ℕ) → Made f k xs → length xs ≡ length xs₀ → length xs ≤ k → xs ≡ list (length xs₀) f
  made_all k xs xs₀ b e h =
      ext_get_or 0 xs (list (length xs₀) f) (e ∙ sym (length-list (length xs₀) f))
      (λ i l. b.each i (omega arith) ∙ sym (list_at (length xs₀) f i 0 (omega arith)))

-- ---- a place before the first round

module _ (k m v w : ℕ) (a : Bool) (d : a ≡ bit v (k / m)) where
  pub start_left : So a → hidden_place ≡ start_at m (showing v) (showing w) k
  unfolding start_at
  start_left e = rw (← d, e)

  module _ (f : a ≡ false) (b : Bool) (d' : b ≡ bit w (k % m)) where
    pub start_right : So b → hidden_place ≡ start_at m (showing v) (showing w) k
    unfolding start_at
    start_right e = rw (← d, ← d', f, e)

    pub start_zero : b ≡ false → 0 ≡ start_at m (showing v) (showing w) k
    unfolding start_at
    start_zero e = rw (← d, ← d', f, e)
