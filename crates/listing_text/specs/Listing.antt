-- The listing program (01: "The listing program reads from standard input .."): from the bytes of its input to the bytes that it writes.
use Rattle.std.specs.Prelude.{Bool, not, cond, ◌||◌, List, ◌≡◌, ℕ, ◌≤◌, eqb, ltb, length, take, drop, get_or}
use Rattle.theory.specs.Rounds.{matched}
use Rattle.book.specs.Book.{length_of, cells_of, book_refusal}
use Rattle.book.specs.BookGraph.{graph_of}
use Rattle.sheet.specs.Sheet.{most_bound}
use Rattle.compare_laws.specs.Places.{zero_pairs}
use Rattle.compare.specs.Compare.{pairs_of}
use Rattle.io.specs.Counts.{IsPrefixLen}
use Rattle.text.specs.Text.{ascii, ending}
use Rattle.listing_lines.specs.Lines.{pair_lines}
use Rattle.listing_text.specs.declared.Text.{Text}

-- ---- what is read

-- "The byte c".
abbrev pub bound_in : List ℕ → ℕ
bound_in input = get_or input 0 0

-- What follows it: "the left book .. then the right".
abbrev pub books_in : List ℕ → List ℕ
books_in input = drop 1 input

-- How much of that is the left book: "as long as its own length field says; all that remains if fewer than 4 bytes or fewer than that length remain".
unfoldable pub left_length : List ℕ → ℕ
left_length books = cond (ltb (length books) 4 || ltb (length books) (length_of books)) (length books) (length_of books)

-- ---- what is written

-- "over 8,192 bytes of input"
abbrev pub most_input : ℕ
most_input = 8192

-- "over 32 cells"
abbrev pub most_listed : ℕ
most_listed = 32

-- The line of an input or a book that is too large.
abbrev pub too_large : List ℕ
too_large = ascii "too large\n"

-- The listing of two accepted books: their cells and the bound, which right cells are matched to each left cell, and the totals.
abbrev pub matched_lines : List ℕ → List ℕ → ℕ → List ℕ
matched_lines l r c = pair_lines (cells_of l) (cells_of r) c (matched (graph_of l) (graph_of r) c)

-- "If a book has over 32 cells".
unfoldable pub many_cells : List ℕ → List ℕ → Bool
many_cells l r = ltb most_listed (cells_of l) || ltb most_listed (cells_of r)

-- "'too large' if a book has over 32 cells"; else the listing.
unfoldable pub accepted_lines : List ℕ → List ℕ → ℕ → List ℕ
accepted_lines l r c = cond (many_cells l r) too_large (matched_lines l r c)

-- "A book's refusal, as 'refused left 3' or 'refused right 3'"; else as above.
unfoldable pub book_lines : List ℕ → List ℕ → ℕ → List ℕ
book_lines l r c =
    cond (not (eqb (book_refusal l) 0)) (ending (ascii "refused left ") (book_refusal l))
    (cond (not (eqb (book_refusal r) 0)) (ending (ascii "refused right ") (book_refusal r)) (accepted_lines l r c))

-- Of the bytes that follow c: the left book, "then the right (all the rest)".
abbrev pub split_lines : List ℕ → ℕ → List ℕ
split_lines books c = book_lines (take (left_length books) books) (drop (left_length books) books) c

-- "20: c above 4", and "empty input is refused 20".
unfoldable pub bound_refused : List ℕ → Bool
bound_refused input = eqb (length input) 0 || ltb most_bound (bound_in input)

-- "The first of these that applies is written as the only line: 'too large' over 8,192 bytes of input; 'refused 20'"; else as above.
unfoldable pub listing_of : List ℕ → List ℕ
listing_of input =
    cond (ltb most_input (length input)) too_large
    (cond (bound_refused input) (ending (ascii "refused ") 20) (split_lines (books_in input) (bound_in input)))

-- ---- promises

-- The most bytes that are written, and more.
abbrev pub most_listing : ℕ
most_listing = 4096

-- The left book of the bytes that follow c.
pub record IsSplit (books : List ℕ) (r : ℕ) : Type 0 where
  pub is : r ≡ left_length books
  pub inside : r ≤ length books

-- Two accepted books of at most 32 cells, and a bound.
pub record Listed (l r : List ℕ) (c : ℕ) : Type 0 where
  pub left : book_refusal l ≡ 0
  pub right : book_refusal r ≡ 0
  pub bounded : c ≤ most_bound
  pub few_left : cells_of l ≤ most_listed
  pub few_right : cells_of r ≤ most_listed

-- The map has a place for each pair, and its zeros are the matched pairs.
pub record MatchMap (l r : List ℕ) (c : ℕ) (map : List ℕ) : Type 0 where
  pub places : length map ≡ pairs_of l r
  pub matching : zero_pairs (graph_of l) (graph_of r) map ≡ matched (graph_of l) (graph_of r) c

-- The promise: the first `length` of the bytes are the listing, and there are as many.
pub record IsListing (input : List ℕ) (r : Text) : Type 0 where
  pub text : take r.length r.bytes ≡ listing_of input
  pub inside : IsPrefixLen r.length r.bytes
