-- How long a question's text and its chain of references are, each up to a limit, and how both are computed: entry by entry, from those of the entries
-- before. `MeasureLaws` says that what is computed is what is asked for.
use Rattle.std.specs.Prelude.{cond, List, [], ◌∷◌, ℕ, suc, ◌+◌, min, max, eqb, ltb, length, get_or}
use Rattle.theory.specs.Expression.{NodeExpr}
use Rattle.sheet.specs.Entry.{Step, Entry, kind_of, first_way_lem, second_way, numbers}
use Rattle.text.specs.Text.{decimal}
use Rattle.question_measure.specs.Text.{text_length, chain, most_chain, most_length}
use Rattle.question_measure.specs.declared.Measure.{Measure}

-- Chains are told apart up to one reference more than may be.
abbrev pub chain_cap : ℕ
chain_cap = most_chain + 1

-- Lengths are told apart up to one byte more than may be.
abbrev pub length_cap : ℕ
length_cap = most_length + 1

-- A chain and a length, each up to its limit.
abbrev pub measure : ℕ → ℕ → Measure
measure c n = record { chain = min chain_cap c; length = min length_cap n }

-- The measure of a question.
abbrev pub measured : NodeExpr → Measure
measured q = measure (chain q) (text_length q)

-- Two parts beside each other: the longer chain, and both lengths.
abbrev pub beside : Measure → Measure → Measure
beside a b = measure (max a.chain b.chain) (a.length + b.length)

-- n bytes more.
abbrev pub longer : Measure → ℕ → Measure
longer a n = measure a.chain (a.length + n)

-- A reference to entry i, where the chains and lengths of the entries before are listed: one reference more.
abbrev pub referred : List ℕ → List ℕ → ℕ → Measure
referred cs ls i = measure (suc (get_or cs i 0)) (get_or ls i 0)

-- A true, not, and or or, by its kind and the measures of what it refers to: `<.>`, `!(p)`, `(p&q)` or `(p|q)`.
unfoldable pub plain_by_lem : ℕ → Measure → Measure → Measure
plain_by_lem kind a b = cond (eqb kind 0) (measure 0 3) (cond (eqb kind 1) (longer a 3) (longer (beside a b) 3))

-- A way, same or differ, by its kind and the measures of its ways: `<w>`, `<w=v>` or `<w!=v>`.
unfoldable pub ways_by : ℕ → Measure → Measure → Measure
ways_by kind x y = cond (eqb kind 4) (longer x 2) (cond (eqb kind 5) (longer (beside x y) 3) (longer (beside x y) 4))

module _ (cs ls : List ℕ) where
  -- A step: a slash, the label, and the test in brackets.
  abbrev pub step_measure : Step → Measure
  step_measure s = longer (referred cs ls s.test) (3 + length (decimal s.label))

  -- Steps, from the last to the first.
  unfoldable pub steps_measure : List Step → Measure
  steps_measure [] = measure 0 0
  steps_measure (s ∷ ss) = beside (step_measure s) (steps_measure ss)

  -- A way: a dot if it has no steps.
  unfoldable pub way_measure : List Step → Measure
  way_measure [] = measure 0 1
  way_measure (s ∷ ss) = steps_measure (s ∷ ss)

  -- A true, not, and or or.
  abbrev pub plain_measure : Entry → Measure
  plain_measure e = plain_by_lem (kind_of e) (referred cs ls (get_or (numbers e) 0 0)) (referred cs ls (get_or (numbers e) 1 0))

  -- The two ways of a same or differ.
  abbrev pub pair_measure : Entry → Measure
  pair_measure e = beside (way_measure (first_way_lem e)) (way_measure (second_way e))

  -- A way, same or differ.
  abbrev pub ways_measure : Entry → Measure
  ways_measure e = ways_by (kind_of e) (way_measure (first_way_lem e)) (way_measure (second_way e))

  -- The measure of an entry.
  unfoldable pub entry_measure : Entry → Measure
  entry_measure e = cond (ltb (kind_of e) 4) (plain_measure e) (ways_measure e)
