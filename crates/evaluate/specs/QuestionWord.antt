-- The word of a question in a graph (01, "Truth").
use Rattle.std.specs.Prelude.{◌&&◌, List, ℕ}
use Rattle.theory.specs.Graph.{Graph}
use Rattle.theory.specs.Expression.{NodeExpr}
use Rattle.theory.specs.Meaning.{holds}
use Rattle.words.specs.Words.{word_of}
use Rattle.sheet.specs.Sheet.{question_of}

-- "Word k gets bit i (value 2 to the i) exactly when entry k is true at cell i; bits from n up are 0", and "Truth has 0 bits" at hidden cells
-- (02, 2026-07): the nodes where q holds, as a word.
abbrev pub truth_word : Graph → NodeExpr → ℕ
truth_word g q = word_of g.size (λ x. g.shown x && holds g q x)

-- The word of entry k of the sheet s.
abbrev pub question_word : Graph → List ℕ → ℕ → ℕ
question_word g s k = truth_word g (question_of s k)
