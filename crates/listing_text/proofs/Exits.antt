-- The split of an input, and which line is written.
use mathlib.Core.Bool.{Bool, true, false}
use mathlib.Core.List.{List}
use mathlib.Core.Path.{◌≡◌, sym, ◌∙◌}
use mathlib.Mathlib.Data.Bool.Basic.{or-eq-false-eq-eq-false-and-eq-false}
use Prim.Native.Nat.{ℕ, ◌-◌, ◌≤◌, ◌<◌, min}
use native.Mathlib.Omega.{arith}
use borrow.Author.Tests.{lt-ltb, le-ltb, ltb-false, ne_eqb, eqb-false}
use lib.Dec.{eqb, ltb, lit≤}
use lib.ListN.{length, take, drop, get_or, length-drop}
use lib.Seq.{length-take-le, take_all}
use Rattle.std.proofs.Common.{⊎_elim}
use Rattle.theory.proofs.TestLaws.{le-or-lt}
use Rattle.outcome.specs.Refused.{number}
use Rattle.outcome.specs.RefusalLaws.{number-some}
use Rattle.outcome.specs.declared.Refusal.{Refusal}
use Rattle.book.specs.Book.{length_of, cells_of, book_refusal}
use Rattle.sheet.specs.Sheet.{most_bound}
use Rattle.text.specs.Text.{ascii, ending, Wrote}
use Rattle.text.specs.Laws.{wrote_within}
use Rattle.listing_text.specs.Listing.{bound_in, left_length, most_input, most_listed, too_large, matched_lines, many_cells, accepted_lines, book_lines, split_lines, bound_refused, listing_of, most_listing, IsSplit, Listed, IsListing}

-- ---- how much is the left book

module _ (books : List ℕ) where
  pub left_short : length books < 4 → IsSplit books (length books)
  unfolding left_length
  left_short h = record { is = rw (lt-ltb (length books) 4 h); inside = omega arith }

  module _ (own : ℕ) (e : own ≡ length_of books) (h : 4 ≤ length books) where
    left_all : length books < own → IsSplit books (length books)
    unfolding left_length
    left_all l = record { is = rw (← e, le-ltb (length books) 4 h, lt-ltb (length books) own l); inside = omega arith }

    left_own : own ≤ length books → IsSplit books own
    unfolding left_length
    left_own l = record { is = rw (← e, le-ltb (length books) 4 h, le-ltb (length books) own l); inside = l }

    -- the smaller of the two
    pub left_least : (k : ℕ) → k ≡ min (length books) own → IsSplit books k
    left_least k d =
        ⊎_elim
        (λ l. let m : k ≡ own = omega arith in rw m (left_own l))
        (λ l. let m : k ≡ length books = omega arith in rw m (left_all l))
        (le-or-lt own (length books))

-- ---- whether a book has too many cells

module _ (l r : List ℕ) (n : ℕ) (e : n ≡ cells_of l) where
  pub many_left : most_listed < n → ltb most_listed n ≡ many_cells l r
  unfolding many_cells
  many_left h = rw (← e, lt-ltb most_listed n h)

  pub many_right : (m : ℕ) → n ≤ most_listed → m ≡ cells_of r → ltb most_listed m ≡ many_cells l r
  unfolding many_cells
  many_right m h d = rw (← e, ← d, le-ltb most_listed n h)

-- ---- whether c is refused

module _ (input : List ℕ) where
  module _ (t : Bool) (e : t ≡ eqb (length input) 0) where
    pub bound_absent : t ≡ true → t ≡ bound_refused input
    unfolding bound_refused
    bound_absent d = rw (← e, d)

    pub bound_there : t ≡ false → ltb most_bound (bound_in input) ≡ bound_refused input
    unfolding bound_refused
    bound_there d = rw (← e, d)

-- ---- which line is written

module _ (l r : List ℕ) (c : ℕ) {out exit : List ℕ} {next : ℕ} where
  module _ (t : Bool) (e : t ≡ many_cells l r) where
    pub books_large : t ≡ true → Wrote out 0 too_large 10 exit next → Wrote out 0 (accepted_lines l r c) most_listing exit next
    unfolding accepted_lines
    books_large d w = rw (← e, d) (wrote_within (lit≤ tt) w)

    pub books_listed : t ≡ false → Wrote out 0 (matched_lines l r c) most_listing exit next → Wrote out 0 (accepted_lines l r c) most_listing exit next
    unfolding accepted_lines
    books_listed d w = rw (← e, d) w

  -- k is the refusal of the left book, and n its number
  pub left_refused : (k : Refusal) → number k ≡ book_refusal l → (n : ℕ) → n ≡ number k → Wrote out 0 (ending (ascii "refused left ") n) 34 exit next
      → Wrote out 0 (book_lines l r c) most_listing exit next
  unfolding book_lines
  left_refused k e n d w = rw (← e, ne_eqb (number k) 0 (number-some k), ← d) (wrote_within (lit≤ tt) w)

  module _ (z : 0 ≡ book_refusal l) where
    pub right_refused : (k : Refusal) → number k ≡ book_refusal r → (n : ℕ) → n ≡ number k → Wrote out 0 (ending (ascii "refused right ") n) 35 exit next
        → Wrote out 0 (book_lines l r c) most_listing exit next
    unfolding book_lines
    right_refused k e n d w = rw (← z, ← e, ne_eqb (number k) 0 (number-some k), ← d) (wrote_within (lit≤ tt) w)

    pub books_accepted : 0 ≡ book_refusal r → Wrote out 0 (accepted_lines l r c) most_listing exit next → Wrote out 0 (book_lines l r c) most_listing exit next
    unfolding book_lines
    books_accepted z' w = rw (← z, ← z') w

-- books without too many cells are listed
pub few_listed : (l r : List ℕ) (c : ℕ) (t : Bool) → book_refusal l ≡ 0 → book_refusal r ≡ 0 → c ≤ most_bound → t ≡ many_cells l r → t ≡ false → Listed l r c
unfolding many_cells
few_listed l r c t p q h e d =
    let (a, b) = (or-eq-false-eq-eq-false-and-eq-false _ _).0 (sym e ∙ d) in
    record { left = p; right = q; bounded = h; few_left = ltb-false _ _ a; few_right = ltb-false _ _ b }

-- all that remains from byte k on
rest : (s : List ℕ) (k : ℕ) → take (length s - k) (drop k s) ≡ drop k s
rest s k = take_all (length s - k) (drop k s) (omega (arith, length-drop k s))

module _ (books : List ℕ) (k : ℕ) (s : IsSplit books k) where
  pub split_counts : k ≡ length (take k books)
  split_counts = sym (length-take-le k books s.inside)

  pub split_written : (c : ℕ) {out exit : List ℕ} {next : ℕ} → Wrote out 0 (book_lines (take k books) (take (length books - k) (drop k books)) c) most_listing exit next
      → Wrote out 0 (split_lines books c) most_listing exit next
  split_written c w = rw (← s.is, ← rest books k) w

module _ (input : List ℕ) {out exit : List ℕ} {next : ℕ} where
  pub input_large : most_input < length input → Wrote out 0 too_large 10 exit next → Wrote out 0 (listing_of input) most_listing exit next
  unfolding listing_of
  input_large h w = rw (lt-ltb most_input (length input) h) (wrote_within (lit≤ tt) w)

  module _ (h : length input ≤ most_input) (t : Bool) (e : t ≡ bound_refused input) where
    pub input_refused : t ≡ true → Wrote out 0 (ending (ascii "refused ") 20) 29 exit next → Wrote out 0 (listing_of input) most_listing exit next
    unfolding listing_of
    input_refused d w = rw (le-ltb most_input (length input) h, ← e, d) (wrote_within (lit≤ tt) w)

    pub input_listed : t ≡ false → Wrote out 0 (split_lines (take (length input - 1) (drop 1 input)) (get_or input 0 0)) most_listing exit next → Wrote out 0 (listing_of input) most_listing exit next
    unfolding listing_of
    input_listed d w = rw (le-ltb most_input (length input) h, ← e, d, ← rest input 1) w

-- a bound that is not refused is there, and is at most 4
module _ (input : List ℕ) (t : Bool) (e : t ≡ bound_refused input) (d : t ≡ false) where
  passed : (eqb (length input) 0 ≡ false) × (ltb most_bound (bound_in input) ≡ false)
  unfolding bound_refused
  passed = (or-eq-false-eq-eq-false-and-eq-false _ _).0 (sym e ∙ d)

  pub input_some : 1 ≤ length input
  input_some = let f = eqb-false (length input) 0 passed.0 in omega arith

  pub input_bound : get_or input 0 0 ≤ most_bound
  input_bound = ltb-false _ _ passed.1

-- ---- the whole text

pub listing_told : (input : List ℕ) {room exit : List ℕ} {next : ℕ} → most_listing ≡ length room → Wrote room 0 (listing_of input) most_listing exit next
    → IsListing input (record { bytes = exit; length = next })
listing_told input {room} {exit} {next} h w =
    let l : next ≤ length exit = omega (arith, w.few, w.size) in
    record { text = w.bytes; inside = (l, sym (length-take-le next exit l)) }
