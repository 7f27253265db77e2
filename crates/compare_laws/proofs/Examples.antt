-- Worked comparisons, computed: how deep the question is that is named for each pair (02, 2026-06), place by place; 0 where a pair stays, and
-- `hidden_place` where a node is not shown.
use Rattle.std.specs.Prelude.{cond, List, [], ◌∷◌, map, ◌≡◌, refl, ℕ, eqb, ltb}
use Rattle.theory.specs.Search.{any, every, list}
use Rattle.theory.specs.Graph.{Graph, link, data_graph, comparisons, compared, has}
use Rattle.theory.specs.Bound.{depth}
use Rattle.theory.specs.Path.{end, out, onward, paths}
use Rattle.theory.specs.Bisimulation.{Sides, one_sided, two_sided}
use Rattle.theory.specs.Rounds.{follow, met, two_paths, one_link, zigs, zags, table, round, rounds}
use Rattle.theory.specs.Choosing.{or_else, when, first_in, paths_of, link_choice, pair_choice, lengths_choice, total_choice, paths_choice, chosen}
use Rattle.sheet.specs.Entry.{spell_way, spell, extend, expressions, expression}
use Rattle.compare_laws.specs.Places.{start_at, start_map}
use Rattle.sheet.specs.Sheet.{hidden_place}
use Rattle.compare_laws.specs.Setting.{Setting}
use Rattle.compare_laws.specs.Comparison.{begin, steps_along, reason_entry, with_denial, conjoined, conjoint, name_left, describe_right, write, part, turned, verdict_of, counted, verdict, obey, settle, upto, states, comparison}

-- A setting, and the depths.
pub record Row : Type 0 where
  pub setting : Setting
  pub wanted : List ℕ

abbrev row : Sides → Graph → Graph → ℕ → List ℕ → Row
row x l r c t = record { setting = record { left = l; right = r; sides = x; bound = c; version = 1 }; wanted = t }

-- The depths of what a comparison names.
abbrev pub depths : Setting → List ℕ
depths s = map (λ k. cond (eqb k hidden_place) k (depth (expression (comparison s).entries k))) (comparison s).map

-- A chain of one label: node x leads to node x - 1, and so has x links before it.
abbrev pub chain : Graph
chain = data_graph 3 (link 1 1 0 ∷ link 2 1 1 ∷ []) (λ _. 5)

-- The same, its first node not shown.
abbrev pub hidden_chain : Graph
hidden_chain = record { size = 3; shown = λ x. ltb 0 x; links = link 2 1 1 ∷ []; ends = compared (λ _. 5) }

-- A ring of two nodes by label 1 of which one is marked by label 2.
abbrev pub one : Graph
one = data_graph 2 (link 0 1 1 ∷ link 0 2 0 ∷ link 1 1 0 ∷ []) (λ _. 5)

-- A ring of three of which all but one are.
abbrev pub others : Graph
others = data_graph 3 (link 0 1 1 ∷ link 1 1 2 ∷ link 1 2 1 ∷ link 2 1 0 ∷ link 2 2 2 ∷ []) (λ _. 5)

-- The comparisons.
unfoldable pub rows : List Row
rows =
    -- of two nodes of a chain one has fewer links before it: that many steps, and one more, tell them apart; one-way only from the one that has more
    row two_sided chain chain 0 (0 ∷ 1 ∷ 1 ∷ 1 ∷ 0 ∷ 2 ∷ 1 ∷ 2 ∷ 0 ∷ [])
    ∷ row one_sided chain chain 0 (0 ∷ 0 ∷ 0 ∷ 1 ∷ 0 ∷ 0 ∷ 1 ∷ 2 ∷ 0 ∷ [])
    -- at bound 2 "same: stay, step, step" has both steps at depth 1
    ∷ row two_sided chain chain 2 (0 ∷ 1 ∷ 1 ∷ 1 ∷ 0 ∷ 1 ∷ 1 ∷ 1 ∷ 0 ∷ [])
    -- without "not" some pairs need a deeper question, here up to n × m
    ∷ row two_sided one others 0 (1 ∷ 2 ∷ 4 ∷ 3 ∷ 1 ∷ 1 ∷ [])
    ∷ row one_sided one others 0 (1 ∷ 3 ∷ 5 ∷ 4 ∷ 6 ∷ 2 ∷ [])
    -- the last two nodes of a chain are a chain of two
    ∷ row two_sided hidden_chain chain 0 (hidden_place ∷ hidden_place ∷ hidden_place ∷ 0 ∷ 1 ∷ 1 ∷ 1 ∷ 0 ∷ 2 ∷ [])
    ∷ []

-- Every depth is the one wanted.
pub rows_hold : map (λ (r : Row). depths r.setting) rows ≡ map (λ (r : Row). r.wanted) rows
unfolding rows start_at start_map begin steps_along reason_entry with_denial conjoined conjoint name_left describe_right write part turned verdict_of counted verdict obey settle upto states spell_way spell extend expressions depth rounds round table zigs zags one_link two_paths comparisons compared met follow any every list out has paths onward end or_else when first_in paths_of link_choice pair_choice lengths_choice total_choice paths_choice chosen
rows_hold = refl
