-- What each turn and each way out of the functions that read a book shows of the definitions of `specs/`, as in `Laws`.
use mathlib.Core.Bool.{Bool, true, false, not, cond}
use mathlib.Core.Path.{◌≡◌, refl, sym, ap, ap₂, ◌∙◌}
use mathlib.Core.List.{List, [], ◌∷◌, ◌++◌, append-nil}
use Prim.Native.Nat.{ℕ, zero, suc, ◌+◌, ◌^◌, ◌≤◌, ◌<◌}
use native.Mathlib.Nat.{le_of_suc-le-suc}
use native.Mathlib.Omega.{arith}
use borrow.Author.Tests.{eq-eqb, ne_eqb}
use lib.ListN.{length, get_or, set, length-set}
use lib.Seq.{get_or-set_same, get_or-set_other}
use Rattle.theory.specs.Search.{list}
use Rattle.theory.proofs.TestLaws.{list_ext}
use Rattle.theory.specs.Graph.{same, Link, Inside}
use Rattle.words.specs.Words.{word_of, IsMinus}
use Rattle.words.specs.Laws.{bit-zero, word_of_ext, word_of_is}
use Rattle.book.specs.Book.{cells_of, links_of, link_at, book_refusal, as_link}
use Rattle.book.specs.BookGraph.{passes, hides, clear, kept, seen_links, seen_recording, seen_of}
use Rattle.book.specs.AcceptedLaws.{book_sizes, book_link}
use Rattle.book.specs.SeenLaws.{seen_ends, seen_graph}
use Rattle.book.specs.declared.BookLink.{BookLink}
use Rattle.edges.specs.Edges.{edge_at, edges, empty_rows}
use Rattle.edges.specs.BookEdges.{Loaded, recordings_to, recordings, same_in, passing_to, passing_rows, passing, BothRows}
use Rattle.edges.specs.Differing.{filled, differ_row, differing_to, differing}
use Rattle.edges.specs.Laws.{rows_at, rows_none, rows_more}
use Rattle.edges.specs.BookLaws.{passing-differing}

-- ---- a link's cells
pub none_hidden : (h : ℕ) (l : BookLink) → h ≡ 0 → true ≡ clear h (as_link l)
unfolding clear
none_hidden h l e = rw (e, bit-zero l.from, bit-zero l.to)

module _ (h : ℕ) (l : BookLink) (a : Bool) (da : a ≡ hides h l.from) where
  pub from_hidden : a ≡ true → false ≡ clear h (as_link l)
  unfolding clear
  from_hidden e = rw (← da, e)

  pub from_seen : a ≡ false → (b : Bool) → b ≡ hides h l.to → not b ≡ clear h (as_link l)
  unfolding clear
  from_seen e b db = rw (← da, e, db)

-- ---- the links, one turn at a time
-- the first n of a list that is given by a function
list_snoc : {A : Type 0} (n : ℕ) (f : ℕ → A) → list (suc n) f ≡ list n f ++ (f n ∷ [])
unfolding list
list_snoc zero f = refl
list_snoc (suc n) f = ap (λ l. f 0 ∷ l) (list_snoc n (λ i. f (suc i)))

kept_append : (p : Link → Bool) (ks ls : List Link) → kept p (ks ++ ls) ≡ kept p ks ++ kept p ls
unfolding kept
kept_append p [] ls = refl
kept_append p (k ∷ ks) ls = by (p k) (kept_append p ks ls)
  where
    by : (b : Bool) → kept p (ks ++ ls) ≡ kept p ks ++ kept p ls
        → cond b (k ∷ kept p (ks ++ ls)) (kept p (ks ++ ls)) ≡ cond b (k ∷ kept p ks) (kept p ks) ++ kept p ls
    by true e = ap (λ l. k ∷ l) e
    by false e = e

inside_at : (n m : ℕ) (f : ℕ → Link) → Inside n (list m f) → (i : ℕ) → i < m → ((f i).from < n) × ((f i).to < n)
unfolding Inside list
inside_at n zero f d i l = absurd (omega arith)
inside_at n (suc m) f d zero l = (d.0, d.1)
inside_at n (suc m) f d (suc i) l = inside_at n m (λ i. f (suc i)) d.2 i (le_of_suc-le-suc l)

-- of the first k links, those that are seen are loaded
pub record Filled (h : ℕ) (s fs ls ts : List ℕ) (count k : ℕ) : Type 0 where
  pub from_long : length fs ≡ 512
  pub label_long : length ls ≡ 512
  pub to_long : length ts ≡ 512
  pub is : edges count fs ls ts ≡ kept (clear h) (list k (link_at s))

pub filled_none : (h : ℕ) (s fs ls ts : List ℕ) → length fs ≡ 512 → length ls ≡ 512 → length ts ≡ 512 → Filled h s fs ls ts 0 0
unfolding kept list
filled_none h s fs ls ts a b c = record { from_long = a; label_long = b; to_long = c; is = refl }

-- the cells of a link have room in a word
module _ (s : List ℕ) (r : book_refusal s ≡ 0) (k e : ℕ) (h : k < e) (d : e ≡ links_of s) (l : BookLink) (dl : as_link l ≡ link_at s k) where
  pub from_low : l.from < 64
  from_low = omega (arith, ap (λ (m : Link). m.from) dl, (book_link s r k (omega arith)).from, (book_sizes s r).few)

  pub to_low : l.to < 64
  to_low = omega (arith, ap (λ (m : Link). m.to) dl, (book_link s r k (omega arith)).to, (book_sizes s r).few)

module _ (h : ℕ) (s fs ls ts : List ℕ) (count k : ℕ) (i : Filled h s fs ls ts count k) (few : count ≤ k) where
  module _ (l : BookLink) (d : as_link l ≡ link_at s k) (b : Bool) (db : b ≡ clear h (as_link l)) where
    more : kept (clear h) (list (k + 1) (link_at s)) ≡ edges count fs ls ts ++ cond b (as_link l ∷ []) []
    unfolding kept
    more =
        let z : k + 1 ≡ suc k = omega arith in
        rw z (ap (kept (clear h)) (list_snoc k (link_at s)) ∙ kept_append (clear h) (list k (link_at s)) (link_at s k ∷ []) ∙ ap₂ ◌++◌ (sym i.is) (rw (← d, ← db)))

    longer_by : (e : ℕ) → k < e → e ≤ 512 → b ≡ true
        → Filled h s (set fs count l.from) (set ls count l.label) (set ts count l.to) (count + 1) (k + 1)
    longer_by e m most t = record {
      from_long = length-set fs count l.from ∙ i.from_long;
      label_long = length-set ls count l.label ∙ i.label_long;
      to_long = length-set ts count l.to ∙ i.to_long;
      is = longer ∙ sym (more ∙ rw t);
    }
      where
        here : edge_at (set fs count l.from) (set ls count l.label) (set ts count l.to) count ≡ as_link l
        here =
            rw (
              get_or-set_same fs count l.from 0 (omega (arith, i.from_long)),
              get_or-set_same ls count l.label 0 (omega (arith, i.label_long)),
              get_or-set_same ts count l.to 0 (omega (arith, i.to_long)),
            )

        before : (j : ℕ) → j < count → edge_at (set fs count l.from) (set ls count l.label) (set ts count l.to) j ≡ edge_at fs ls ts j
        before j n =
            let o : j ≡ count → ⊥ = λ e. omega arith in
            rw (get_or-set_other fs count j l.from 0 o, get_or-set_other ls count j l.label 0 o, get_or-set_other ts count j l.to 0 o)

        longer : edges (count + 1) (set fs count l.from) (set ls count l.label) (set ts count l.to) ≡ edges count fs ls ts ++ (as_link l ∷ [])
        longer =
            let z : count + 1 ≡ suc count = omega arith in
            rw z (list_snoc count _ ∙ ap₂ ◌++◌ (list_ext count _ _ before) (ap (λ (x : Link). x ∷ []) here))

    shorter : b ≡ false → Filled h s fs ls ts count (k + 1)
    shorter t =
        record { from_long = i.from_long; label_long = i.label_long; to_long = i.to_long; is = sym (more ∙ rw t (append-nil _)) }

    module _ (fs' ls' ts' : List ℕ) (next : ℕ) where
      pub filled_more : (e : ℕ) → k < e → e ≤ 512 → b ≡ true → fs' ≡ set fs count l.from → ls' ≡ set ls count l.label → ts' ≡ set ts count l.to
          → next ≡ count + 1 → Filled h s fs' ls' ts' next (k + 1)
      filled_more e m most t u v w n = rw (u, v, w, n) (longer_by e m most t)

      pub filled_skip : b ≡ false → fs' ≡ fs → ls' ≡ ls → ts' ≡ ts → next ≡ count → Filled h s fs' ls' ts' next (k + 1)
      filled_skip t u v w n = rw (u, v, w, n) (shorter t)

  pub filled_all : book_refusal s ≡ 0 → (e : ℕ) → e ≡ links_of s → e ≤ k → k ≤ e → Loaded h s count fs ls ts
  filled_all r e d m n = record {
    from_long = i.from_long;
    label_long = i.label_long;
    to_long = i.to_long;
    held = record {
      few = omega (arith, (book_sizes s r).most);
      from_low = λ j l. omega (arith, (inside j l).0, (book_sizes s r).few);
      to_low = λ j l. omega (arith, (inside j l).1, (book_sizes s r).few);
    };
    is = is;
  }
    where
      is : edges count fs ls ts ≡ seen_links h s
      is = let z : k ≡ links_of s = omega arith in rw z at i.is

      inside : (j : ℕ) → j < count → (get_or fs j 0 < cells_of s) × (get_or ts j 0 < cells_of s)
      inside = inside_at (cells_of s) count (edge_at fs ls ts) (rw is (seen_graph h s r).inside)

-- ---- the recordings, one turn at a time
module _ (h : ℕ) (s : List ℕ) where
  pub list_start : empty_rows 64 ≡ recordings_to h s 0
  unfolding recordings_to
  list_start = rows_none 64 _

  module _ (list : List ℕ) (x : ℕ) (i : list ≡ recordings_to h s x) where
    pub list-next : (v : ℕ) → v ≡ seen_recording h s x → set list x v ≡ recordings_to h s (x + 1)
    unfolding recordings_to
    list-next v d = rw (i, d) (rows_more 64 x _)

    pub list_all : (n : ℕ) → n ≡ cells_of s → n ≤ x → x ≤ n → list ≡ recordings h s
    list_all n d m l = let e : x ≡ cells_of s = omega arith in rw e at i

-- ---- the rows of the cells that are the same
module _ (h : ℕ) (s : List ℕ) where
  pub rows_start : (rows : List ℕ) → rows ≡ empty_rows 64 → rows ≡ passing_rows h s same 0
  unfolding passing_rows
  rows_start rows e = e ∙ rows_none 64 _

  module _ (rows : List ℕ) (x n : ℕ) (i : rows ≡ passing_rows h s same x) (d : n ≡ cells_of s) where
    -- with the recordings of the list they are the same as they are in the book
    pub rows_next : (list : List ℕ) → list ≡ recordings h s → x < n → n ≤ 64 → (v : ℕ) → v ≡ same_in list x n → set rows x v ≡ passing_rows h s same (x + 1)
    unfolding passing_rows passing_to same_in recordings_to
    rows_next list e l few v f = rw (i, f ∙ alike) (rows_more 64 x _)
      where
        at : (y : ℕ) → y < n → get_or list y 0 ≡ seen_recording h s y
        at y m = rw e (rows_at 64 (cells_of s) (seen_recording h s) y (omega arith) (omega arith))

        alike : word_of n (λ y. passes same (get_or list x 0) (get_or list y 0)) ≡ word_of (cells_of s) ((seen_of h s).ends same x)
        alike =
            word_of_ext n _ _ (λ y m. rw (at x l, at y m) (sym (seen_ends h s same x y (omega arith) (omega arith))))
            ∙ ap (λ k. word_of k ((seen_of h s).ends same x)) d

    pub rows_all : n ≤ x → x ≤ n → rows ≡ passing h s same
    rows_all m l = let e : x ≡ cells_of s = omega arith in rw e at i

-- ---- the rows of what differs
module _ (heard row : ℕ) where
  pub differ_none : row ≡ 0 → 0 ≡ differ_row heard row
  unfolding differ_row
  differ_none z = rw (eq-eqb row 0 z)

  pub differ_some : heard < 2 ^ 64 → (row ≡ 0 → ⊥) → (r : ℕ) → IsMinus heard row r → r ≡ differ_row heard row
  unfolding differ_row
  differ_some h f r d = rw (ne_eqb row 0 f) (word_of_is 64 r _ (omega (arith, d.most)) (λ i _. d.bits i))

module _ (sames : List ℕ) (n : ℕ) where
  pub differ_start : (rows : List ℕ) → rows ≡ empty_rows 64 → rows ≡ differing_to sames n 0
  unfolding differing_to
  differ_start rows e = e ∙ rows_none 64 _

  module _ (rows : List ℕ) (x : ℕ) (i : rows ≡ differing_to sames n x) where
    pub differ_next : (heard v : ℕ) → heard ≡ filled sames n → v ≡ differ_row heard (get_or sames x 0) → set rows x v ≡ differing_to sames n (x + 1)
    unfolding differing_to
    differ_next heard v d e = rw (i, e, d) (rows_more 64 x _)

    pub differ_all : n ≤ x → x ≤ n → rows ≡ differing sames n
    differ_all m l = let e : x ≡ n = omega arith in rw e at i

pub both_rows : (h : ℕ) (s : List ℕ) → book_refusal s ≡ 0 → (n : ℕ) → n ≡ cells_of s → (sames differs : List ℕ) → sames ≡ passing h s same
    → differs ≡ differing sames n → BothRows h s sames differs
both_rows h s r n d sames differs e f = record { first = e; second = f ∙ rw (e, d) (passing-differing h s r) }
