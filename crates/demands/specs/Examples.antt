-- Worked comparisons, computed: one-way (02, 2026-03), which left cells are covered by which right ones; with silent cells (02, 2026-04), and with
-- hidden ones (02, 2026-07).
use Rattle.std.specs.Prelude.{Bool, true, false, List, [], ◌∷◌, map, ◌≡◌, refl, ℕ, get_or}
use Rattle.fields.specs.Fields.{field}
use Rattle.fields.specs.Label.{label_width}
use Rattle.theory.specs.Search.{any, every, list}
use Rattle.theory.specs.Graph.{Graph, Link, link, data_graph, same, comparisons, compared, has}
use Rattle.theory.specs.Path.{end, out, onward, paths}
use Rattle.theory.specs.Bisimulation.{Sides, one_sided, two_sided}
use Rattle.theory.specs.Rounds.{Table, follow, met, two_paths, one_link, zigs, zags, table, round, rounds, settled}
use Rattle.theory.specs.Parting.{by_paths}
use Rattle.theory.specs.Choosing.{some, or_else, when, first_in, paths_of, link_choice, pair_choice, lengths_choice, total_choice, paths_choice, chosen}
use Rattle.book.specs.Book.{recording_at, link_in, link_at}
use Rattle.words.specs.Words.{bit}
use Rattle.book.specs.BookGraph.{heard, passes, graph_of, clear, kept, seen_recording, seen_of}
use Rattle.book.specs.Examples.{left_book, right_book}

-- Two graphs, a bound and the sides that count, and what they relate.
pub record Row : Type 0 where
  pub left : Graph
  pub right : Graph
  pub bound : ℕ
  pub sides : Sides
  pub wanted : Table

abbrev row : Sides → Graph → Graph → ℕ → Table → Row
row x l r c t = record { left = l; right = r; bound = c; sides = x; wanted = t }

-- Yes and no.
abbrev y : Bool
y = true

abbrev n : Bool
n = false

-- A's right book with one link more: cell 0 leads to cell 1 by label 2 too.
abbrev more : Graph
more = data_graph 2 (link 0 1 1 ∷ link 0 2 1 ∷ []) (λ _. 5)

-- A book in which label 1 leads to a cell that goes on by label 2, and one in which it leads to a cell without links besides.
abbrev straight : Graph
straight = data_graph 3 (link 0 1 1 ∷ link 1 2 2 ∷ []) (λ _. 5)

abbrev stopping : Graph
stopping = data_graph 4 (link 0 1 1 ∷ link 0 1 2 ∷ link 1 2 3 ∷ []) (λ _. 5)

-- A graph with these recordings, compared as a book's are.
abbrev spoken : ℕ → List Link → List ℕ → Graph
spoken size links recordings = record { size = size; shown = λ x. true; links = links; ends = λ t x y. passes t (get_or recordings x 0) (get_or recordings y 0) }

-- The comparisons.
unfoldable pub rows : List Row
rows =
    -- A, bounds 0 and 1, in both directions
    row one_sided (graph_of left_book) (graph_of right_book) 0 ((y ∷ n ∷ []) ∷ (y ∷ y ∷ []) ∷ (y ∷ y ∷ []) ∷ [])
    ∷ row one_sided (graph_of left_book) (graph_of right_book) 1 ((n ∷ n ∷ []) ∷ (y ∷ y ∷ []) ∷ (y ∷ y ∷ []) ∷ [])
    ∷ row one_sided (graph_of right_book) (graph_of left_book) 0 ((y ∷ n ∷ n ∷ []) ∷ (y ∷ y ∷ y ∷ []) ∷ [])
    ∷ row one_sided (graph_of right_book) (graph_of left_book) 1 ((y ∷ n ∷ n ∷ []) ∷ (y ∷ y ∷ y ∷ []) ∷ [])
    -- a book is covered by the same with a link more, and not the other way round
    ∷ row one_sided (graph_of right_book) more 1 ((y ∷ n ∷ []) ∷ (y ∷ y ∷ []) ∷ [])
    ∷ row one_sided more (graph_of right_book) 1 ((n ∷ n ∷ []) ∷ (y ∷ y ∷ []) ∷ [])
    -- two that cover each other and are not matched: "the converse is not claimed"
    ∷ row one_sided stopping straight 1 ((y ∷ n ∷ n ∷ []) ∷ (n ∷ y ∷ n ∷ []) ∷ (y ∷ y ∷ y ∷ []) ∷ (y ∷ y ∷ y ∷ []) ∷ [])
    ∷ row one_sided straight stopping 1 ((y ∷ n ∷ n ∷ n ∷ []) ∷ (n ∷ y ∷ n ∷ n ∷ []) ∷ (y ∷ y ∷ y ∷ y ∷ []) ∷ [])
    -- a silent cell and one with a sound, two silent cells; two cells that lead on by label 1, to a cell of their own recording and to a silent one
    ∷ row two_sided (spoken 1 [] (0 ∷ [])) (spoken 1 [] (5 ∷ [])) 0 ((n ∷ []) ∷ [])
    ∷ row two_sided (spoken 1 [] (0 ∷ [])) (spoken 1 [] (0 ∷ [])) 0 ((y ∷ []) ∷ [])
    ∷ row one_sided (spoken 1 [] (0 ∷ [])) (spoken 1 [] (5 ∷ [])) 0 ((y ∷ []) ∷ [])
    ∷ row one_sided (spoken 2 (link 0 1 1 ∷ []) (5 ∷ 5 ∷ [])) (spoken 2 (link 0 1 1 ∷ []) (5 ∷ 0 ∷ [])) 1 ((n ∷ n ∷ []) ∷ (y ∷ n ∷ []) ∷ [])
    -- A without all cells but the first of each book, which then have no links
    ∷ row two_sided (seen_of 6 left_book) (seen_of 2 right_book) 1 ((y ∷ n ∷ []) ∷ (n ∷ n ∷ []) ∷ (n ∷ n ∷ []) ∷ [])
    ∷ row two_sided stopping straight 1 ((n ∷ n ∷ n ∷ []) ∷ (n ∷ y ∷ n ∷ []) ∷ (n ∷ n ∷ y ∷ []) ∷ (n ∷ n ∷ y ∷ []) ∷ [])
    ∷ []

-- Every table is the one wanted.
pub rows_hold : map (λ (r : Row). settled r.sides r.left r.right r.bound) rows ≡ map (λ (r : Row). r.wanted) rows
unfolding rows left_book right_book clear kept seen_recording bit recording_at link_at link_in label_width field settled rounds round table zigs zags one_link two_paths comparisons met follow any every list out has paths onward end compared heard passes
rows_hold = refl

-- A cell with a sound is told from a silent one at bound 0 by "same: stay, stay".
pub told_by_same : chosen (spoken 1 [] (5 ∷ [])) (spoken 1 [] (0 ∷ [])) 0 (λ _ _. true) 0 0 ≡ some (by_paths same [] [])
unfolding heard passes compared comparisons any every list out has paths onward end met follow or_else when first_in paths_of link_choice pair_choice lengths_choice total_choice paths_choice chosen
told_by_same = refl
