-- The rows of an accepted book's comparisons.
use Rattle.std.specs.Prelude.{Bool, ◌&&◌, ◌≡◌, List, ℕ, ◌≤◌, ◌<◌, eqb, ltb, get_or}
use Rattle.std.proofs.Math.Bool.{true, false, cond, not}
use Rattle.std.proofs.Math.Path.{refl}
use Rattle.std.proofs.Common.{sym, ap, ◌∙◌, arith, ne_eqb, ltb-true, pow_pos}
use Rattle.std.proofs.lemmas.Bool.{not-true}
use Rattle.theory.specs.Graph.{Comparison, same, differ}
use Rattle.theory.proofs.TestLaws.{never, test_fails, list_ext}
use Rattle.words.specs.Words.{bit, word_of}
use Rattle.words.specs.Laws.{bit-zero, bit-word_of-lt, word_of_ext, word_of_is, word_of-among}
use Rattle.book.specs.Book.{cells_of, book_refusal}
use Rattle.book.specs.BookGraph.{passes, seen_recordings, seen_of}
use Rattle.book.specs.AcceptedLaws.{book_sizes}
use Rattle.book.specs.PassesLaws.{passes_own, passes_differ}
use Rattle.edges.specs.Edges.{Rows, rows_to}
use Rattle.edges.specs.BookEdges.{passing_to, passing_rows, passing}
use Rattle.edges.specs.Differing.{filled, differ_row, differing_to, differing}
use Rattle.edges.specs.Laws.{rows_at}

-- row x has the cells that pass with cell x
pub passing-rows : (h : ℕ) (s : List ℕ) (t : Comparison) → book_refusal s ≡ 0 → Rows (cells_of s) ((seen_of h s).ends t) (passing h s t)
unfolding passing_rows passing_to
passing-rows h s t r = record { row = λ x l. rows_at 64 (cells_of s) _ x (omega (arith, (book_sizes s r).few)) l }

-- ---- what differs, from what is the same
module _ (n : ℕ) (few : n ≤ 64) (r : ℕ → ℕ) where
  -- the word of the nodes whose recordings pass with that of x
  abbrev among : Comparison → ℕ → ℕ
  among t x = word_of n (λ y. passes t (r x) (r y))

  -- a silent one passes with none,
  none_pass : (t : Comparison) (x : ℕ) → passes same (r x) (r x) ≡ false → 0 ≡ among t x
  none_pass t x e = word_of_is n 0 _ (pow_pos n) (λ y _. bit-zero y ∙ sym (test_fails _ _ (passes_own t (r x) (r y)) e))

  -- and one that is heard with itself
  heard_own : (x : ℕ) → x < n → not (eqb (among same x) 0) ≡ passes same (r x) (r x)
  heard_own x l = by (passes same (r x) (r x)) refl
    where
      by : (b : Bool) → passes same (r x) (r x) ≡ b → not (eqb (among same x) 0) ≡ b
      by true e = rw (ne_eqb (among same x) 0 (λ z. never (sym (bit-zero x) ∙ ap (λ w. bit w x) (sym z) ∙ bit-word_of-lt n _ x l ∙ e)))
      by false e = rw (← none_pass same x e)

  differ-row : (heard x : ℕ) → x < n → heard ≡ word_of n (λ y. passes same (r y) (r y)) → differ_row heard (among same x) ≡ among differ x
  unfolding differ_row
  differ-row heard x l d = by (passes same (r x) (r x)) refl
    where
      by : (b : Bool) → passes same (r x) (r x) ≡ b
          → cond (eqb (among same x) 0) 0 (word_of 64 (λ y. bit heard y && not (bit (among same x) y))) ≡ among differ x
      by true e =
          rw (not-true (eqb (among same x) 0) (heard_own x l ∙ e), d)
          (word_of-among n 64 (λ y. passes same (r y) (r y)) (λ y. not (bit (among same x) y)) few
          ∙ word_of_ext n _ _ (λ y m. rw (bit-word_of-lt n (λ y. passes same (r x) (r y)) y m, passes_differ (r x) (r y), e)))
      by false e = rw (← none_pass same x e) (none_pass differ x e)

pub passing-differing : (h : ℕ) (s : List ℕ) → book_refusal s ≡ 0 → differing (passing h s same) (cells_of s) ≡ passing h s differ
unfolding differing_to passing_rows passing_to rows_to filled
passing-differing h s g = list_ext 64 _ _ (λ x _. by x (ltb x (cells_of s)) refl)
  where
    by : (x : ℕ) (b : Bool) → ltb x (cells_of s) ≡ b
        → cond b (differ_row (filled (passing h s same) (cells_of s)) (get_or (passing h s same) x 0)) 0 ≡ cond b (word_of (cells_of s) ((seen_of h s).ends differ x)) 0
    by x true e =
        let l = ltb-true x (cells_of s) e in
        let row = (passing-rows h s same g).row in
        rw (row x l)
        (differ-row (cells_of s) (book_sizes s g).few (λ x. get_or (seen_recordings h s) x 0) _ x l
        (word_of_ext (cells_of s) _ _ (λ y m. rw (row y m) (heard_own (cells_of s) (book_sizes s g).few (λ x. get_or (seen_recordings h s) x 0) y m))))
    by x false e = refl
