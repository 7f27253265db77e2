-- What a caller cites that has read an accepted book: its lists show the graph that is seen.
use Rattle.std.specs.Prelude.{Bool, cond, ◌≡◌, refl, ◌↔◌, List, ℕ, zero, suc, ◌<◌, get_or}
use Rattle.std.proofs.Math.Bool.{true, false, So}
use Rattle.std.proofs.Common.{sym, ap, ◌∙◌, arith}
use Rattle.std.proofs.Math.Dec.{ltb}
use Rattle.theory.proofs.TestLaws.{never, and_iff, ltb_iff, list_at}
use Rattle.theory.specs.Graph.{Comparison, same, differ}
use Rattle.words.specs.Words.{bit, word_of}
use Rattle.words.specs.Laws.{bit-zero, bit-word_of, bit-word_of-lt}
use Rattle.book.specs.Book.{cells_of}
use Rattle.book.specs.BookGraph.{seen_of}
use Rattle.book.specs.AcceptedLaws.{book_sizes, cell_few}
use Rattle.book.specs.PassesLaws.{passes_symmetric, passes_alike, passes_own}
use Rattle.book.specs.SeenLaws.{seen_graph}
use Rattle.edges.specs.Edges.{rows_to}
use Rattle.edges.specs.BookEdges.{passing_to, passing_rows, passing}
use Rattle.edges.specs.BookLaws.{passing-rows}
use Rattle.search_links.specs.Hops.{view_of}
use Rattle.search_links.specs.Sets.{row_at, Valued}
use Rattle.search_links.specs.BookHopLaws.{seen_ordered, seen_out}
use Rattle.search.specs.Reasons.{number_of, Charted}
use Rattle.search.specs.BookReasons.{Read}

module _ (h : ℕ) (s : List ℕ) (count : ℕ) (fs ls ts starts ends : List ℕ) (d : Read h s count fs ls ts starts ends) where
  -- row x of a comparison, in the table
  row_is : (t : Comparison) (x : ℕ) → x < 64 → row_at ends (number_of t) x ≡ get_or (passing h s t) x 0
  row_is same x l = d.rows.first x l
  row_is differ x l = d.rows.second x l

  -- it has the cells that pass with cell x, and those of no others
  row_iff : (t : Comparison) (x y : ℕ) → x < 64
      → So (bit (row_at ends (number_of t) x) y) ↔ ((x < cells_of s) × (y < cells_of s) × So ((seen_of h s).ends t x y))
  unfolding passing_rows passing_to rows_to
  row_iff t x y l = rw (row_is t x l ∙ list_at 64 _ x 0 l) (by (ltb x (cells_of s)) refl)
    where
      by : (b : Bool) → ltb x (cells_of s) ≡ b
          → So (bit (cond b (word_of (cells_of s) ((seen_of h s).ends t x)) 0) y) ↔ ((x < cells_of s) × (y < cells_of s) × So ((seen_of h s).ends t x y))
      by true e = (
        λ o. let (i, j) = simp (bit-word_of, and_iff, ltb_iff) at o in ((ltb_iff _ _).0 e, i, j),
        λ (_, i, j). simp (bit-word_of, and_iff, ltb_iff) (i, j),
      )
      by false e = (λ o. never (sym (bit-zero y) ∙ o), λ (i, _, _). never (sym e ∙ (ltb_iff _ _).1 i))

  -- comparisons go by the recordings
  read_valued : Valued ends
  read_valued = record {
    alike = λ t x y z l lx ly e f.
        let (k, n) = number t l in
        let (a, _, e') = (row_iff same x y lx).0 e in
        let (_, b, f') = (row_iff k y z ly).0 (rw n f) in
        rw (← n) ((row_iff k x z lx).1 (a, b, passes_alike k _ _ _ e' f'));
    turned = λ t x y l lx ly e.
        let (k, n) = number t l in
        let (a, b, e') = (row_iff k x y lx).0 (rw n e) in
        rw (← n) ((row_iff k y x ly).1 (b, a, passes_symmetric k _ _ e'));
    own = λ t x y l lx ly e.
        let (k, n) = number t l in
        let (a, _, e') = (row_iff k x y lx).0 (rw n e) in
        (row_iff same x x lx).1 (a, a, passes_own k _ _ e');
  }
    where
      number : (t : ℕ) → t < 2 → (k : Comparison) × (number_of k ≡ t)
      number zero l = (same, refl)
      number (suc zero) l = (differ, refl)
      number (suc (suc t)) l = absurd (omega arith)

  -- the lists show the graph that is seen
  pub read_charted : Charted (seen_of h s) (view_of starts ls ts) ends
  read_charted = record {
    drawn = record {
      formed = seen_graph h s d.accepted;
      small = (book_sizes s d.accepted).few;
      hops = seen_out h s count fs ls ts starts d.accepted d.loaded d.table;
      rows = λ t x y lx ly.
          ap (λ (w : ℕ). bit w y) (row_is t x (cell_few s x d.accepted lx) ∙ (passing-rows h s t d.accepted).row x lx)
          ∙ bit-word_of-lt (cells_of s) ((seen_of h s).ends t x) y ly;
      symmetric = λ t x y. passes_symmetric t _ _;
    };
    ordered = seen_ordered h s count fs ls ts starts d.accepted d.loaded d.table;
    valued = read_valued;
  }
