-- Worked listings (01, "Examples" and "The listing program"), computed by the definition.
use Rattle.std.specs.Prelude.{List, [], ◌∷◌, ◌++◌, map, ◌≡◌, refl, ℕ, take, drop, set, replicate}
use Prim.Native.String.{String}
use Rattle.fields.specs.Fields.{field}
use Rattle.fields.specs.Label.{label_width}
use Rattle.theory.specs.Search.{any, every, list}
use Rattle.theory.specs.Graph.{comparisons, compared, has}
use Rattle.theory.specs.Path.{end, out, onward, paths}
use Rattle.theory.specs.Rounds.{follow, met, two_paths, one_link, zigs, zags, table, round, rounds, settled}
use Rattle.words.specs.Words.{tally, word_of}
use Rattle.book.specs.Book.{recording_at, link_in, link_at, counts_refusal, head_refusal, below, precedes, rises, link_refusal, links_refusal, book_refusal}
use Rattle.book.specs.BookGraph.{heard, passes}
use Rattle.book.specs.Examples.{left_book, right_book}
use Rattle.text.specs.Text.{ascii, numeral, labelled, ending}
use Rattle.listing_lines.specs.Lines.{row_lines, pairs_in, pair_lines}
use Rattle.listing_text.specs.Listing.{left_length, many_cells, accepted_lines, book_lines, bound_refused, listing_of}

-- An input, and its listing.
pub record Row : Type 0 where
  pub input : List ℕ
  pub listing : String

-- A row, of its parts.
abbrev row : List ℕ → String → Row
row input listing = record { input = input; listing = listing }

-- A book of 33 cells without links.
abbrev pub wide_book : List ℕ
wide_book = 0 ∷ 0 ∷ 0 ∷ 140 ∷ 1 ∷ 33 ∷ 0 ∷ 0 ∷ replicate 132 0

-- P1; then each line that is the only one.
unfoldable pub rows : List Row
rows =
    row (1 ∷ left_book ++ right_book) "books 3 2 bound 1\nrow 0 count 0 word 0\nrow 1 count 1 word 2\nrow 2 count 1 word 2\nmatched 2 parted 4\n"
    -- no byte c; c above 4, before what is wrong with the books
    ∷ row [] "refused 20\n"
    ∷ row (5 ∷ []) "refused 20\n"
    -- no book; a left book of fewer than 4 bytes; one whose length field says less than 8; one that is shorter than its length field says
    ∷ row (1 ∷ []) "refused left 1\n"
    ∷ row (1 ∷ 0 ∷ 0 ∷ 0 ∷ []) "refused left 1\n"
    ∷ row (1 ∷ 0 ∷ 0 ∷ 0 ∷ 7 ∷ drop 4 left_book) "refused left 1\n"
    ∷ row (1 ∷ take 25 left_book) "refused left 2\n"
    -- the left book's refusal before the right's; no right book; a right book with a byte too much
    ∷ row (1 ∷ set left_book 4 3 ++ set right_book 4 3) "refused left 3\n"
    ∷ row (1 ∷ left_book) "refused right 1\n"
    ∷ row (1 ∷ left_book ++ right_book ++ 0 ∷ []) "refused right 2\n"
    -- too many cells, after a refusal
    ∷ row (1 ∷ wide_book ++ right_book) "too large\n"
    ∷ row (1 ∷ left_book ++ wide_book) "too large\n"
    ∷ row (1 ∷ wide_book ++ set right_book 4 3) "refused right 3\n"
    -- too much input, before all else
    ∷ row (replicate 8193 5) "too large\n"
    ∷ row (replicate 8192 5) "refused 20\n"
    ∷ []

-- Every listing is the one wanted.
pub rows_hold : map (λ (r : Row). listing_of r.input) rows ≡ map (λ (r : Row). ascii r.listing) rows
unfolding rows left_book right_book listing_of bound_refused left_length book_lines accepted_lines many_cells pair_lines row_lines pairs_in labelled ending numeral tally word_of book_refusal head_refusal counts_refusal links_refusal link_refusal rises precedes below recording_at link_at link_in label_width field settled rounds round table zigs zags one_link two_paths comparisons met follow any every list out has paths onward end compared heard passes
rows_hold = refl
