-- How the words of a sheet's questions in a graph (`QuestionWord`) are computed: entry by entry, from the words of the entries before.
-- `EvaluatedLaws` says that what is computed is the word of the entry's question.
use Rattle.std.specs.Prelude.{Bool, true, false, ◌&&◌, List, [], ◌∷◌, ◌≡◌, ℕ, zero, suc, ◌+◌, ◌^◌, ◌≤◌, ◌<◌, get_or, set}
use Rattle.std.specs.Int.Bits.{bit_and, bit_or, bit_xor}
use Rattle.theory.specs.Search.{list}
use Rattle.theory.specs.Graph.{Comparison, same, differ, Graph, Link, Inside, has, linked, WellFormed}
use Rattle.theory.specs.Expression.{NodeExpr}
use Rattle.words.specs.Words.{bit, word_of}
use Rattle.sheet.specs.Entry.{Step, Entry, truth, negation, conjunction, disjunction, way, comparison, first_way_lem, second_way, named}
use Rattle.sheet.specs.Sheet.{head_size, entry_at, next_at}
use Rattle.evaluate.specs.QuestionWord.{truth_word}
use Rattle.edges.specs.Edges.{edges, image, gather, empty_rows, any_passes, Rows}

-- ---- the tables that are made of a graph once

-- The set of its nodes; its links in three lists; and for same and for differ a row a node, with the nodes that pass it.
pub record Tables : Type 0 where
  pub every : ℕ
  pub count : ℕ
  pub froms : List ℕ
  pub labels : List ℕ
  pub tos : List ℕ
  pub sames : List ℕ
  pub differs : List ℕ

-- the tables of these numbers and lists
abbrev pub tables : ℕ → ℕ → List ℕ → List ℕ → List ℕ → List ℕ → List ℕ → Tables
tables every count fs ls ts sames differs =
    record { every = every; count = count; froms = fs; labels = ls; tos = ts; sames = sames; differs = differs }

-- The links.
abbrev pub forward : Tables → List Link
forward t = edges t.count t.froms t.labels t.tos

-- The links walked backwards.
abbrev pub backward : Tables → List Link
backward t = edges t.count t.tos t.labels t.froms

-- The rows of a comparison.
abbrev pub rows_for : Tables → Comparison → List ℕ
rows_for t same = t.sames
rows_for t differ = t.differs

-- ---- the word of an entry, where ws are the words of those before it

-- True, not, and, or; a way and a comparison are none of these.
unfoldable pub plain_word : ℕ → List ℕ → Entry → ℕ
plain_word every ws truth = every
plain_word every ws (negation i) = bit_xor every (get_or ws i 0)
plain_word every ws (conjunction i j) = bit_and (get_or ws i 0) (get_or ws j 0)
plain_word every ws (disjunction i j) = bit_or (get_or ws i 0) (get_or ws j 0)
plain_word every ws (way ss) = 0
plain_word every ws (comparison c ss ss') = 0

-- The nodes with a way of these steps, from the last to the first: where a link with the step's label, walked backwards, leads from
-- a node where its test holds and the later steps go on.
unfoldable pub way_word : ℕ → List Link → List ℕ → List Step → ℕ
way_word every ks ws [] = every
way_word every ks ws (s ∷ ss) = image ks s.label (bit_and (get_or ws s.test 0) (way_word every ks ws ss)) 0

-- For each node the ends of the ways of these steps from it, likewise.
unfoldable pub end_rows : List Link → List ℕ → List Step → List ℕ
end_rows ks ws [] = list 64 (λ x. 2 ^ x)
end_rows ks ws (s ∷ ss) = gather ks s.label (get_or ws s.test 0) (end_rows ks ws ss) (empty_rows 64)

-- The nodes with an end in their first row and an end in their second that pass.
unfoldable pub comparison_word : ℕ → List ℕ → List ℕ → List ℕ → ℕ
comparison_word every rows firsts seconds = word_of 64 (λ x. bit every x && any_passes (get_or firsts x 0) (get_or seconds x 0) rows)

-- The word of a comparison whose rows are given, from the two ways of its entry.
abbrev pub pair_word : ℕ → List ℕ → List Link → List ℕ → Entry → ℕ
pair_word every rows ks ws e = comparison_word every rows (end_rows ks ws (first_way_lem e)) (end_rows ks ws (second_way e))

-- The word of an entry.
unfoldable pub entry_word : Tables → List ℕ → Entry → ℕ
entry_word t ws truth = plain_word t.every ws truth
entry_word t ws (negation i) = plain_word t.every ws (negation i)
entry_word t ws (conjunction i j) = plain_word t.every ws (conjunction i j)
entry_word t ws (disjunction i j) = plain_word t.every ws (disjunction i j)
entry_word t ws (way ss) = way_word t.every (backward t) ws ss
entry_word t ws (comparison c ss ss') = pair_word t.every (rows_for t c) (forward t) ws (comparison c ss ss')

-- The words after the entries number k to k + left - 1, of which the first starts at `at`, have been written one after another.
unfoldable pub evaluated_from : Tables → List ℕ → ℕ → ℕ → ℕ → List ℕ → List ℕ
evaluated_from t s k at zero ws = ws
evaluated_from t s k at (suc left) ws = evaluated_from t s (k + 1) (next_at s at) left (set ws k (entry_word t ws (entry_at s at)))

-- The words after the first `upto` entries.
abbrev pub evaluated : Tables → List ℕ → ℕ → List ℕ → List ℕ
evaluated t s upto ws = evaluated_from t s 0 head_size upto ws

-- ---- what the functions need

-- The tables are those of a graph: they have its links, in any order.
pub record TablesOf (g : Graph) (t : Tables) : Type 0 where
  pub formed : WellFormed g
  pub few : g.size ≤ 64
  pub every : t.every ≡ word_of g.size g.shown
  pub inside : Inside g.size (forward t)
  pub links : (x a y : ℕ) → has (forward t) x a y ≡ linked g x a y
  pub rows : (c : Comparison) → Rows g.size (g.ends c) (rows_for t c)

-- The rows are those of the ends of the ways; where the answer is no, no way has an end.
pub record Ended (ks : List Link) (ws : List ℕ) (ss : List Step) (r : Bool) (rows : List ℕ) : Type 0 where
  pub is : r ≡ true → rows ≡ end_rows ks ws ss
  pub none : r ≡ false → (x : ℕ) → get_or (end_rows ks ws ss) x 0 ≡ 0

-- The first m words are those of the expressions.
pub record Known (g : Graph) (qs : List NodeExpr) (m : ℕ) (ws : List ℕ) : Type 0 where
  pub word : (i : ℕ) → i < m → get_or ws i 0 ≡ truth_word g (named qs i)
