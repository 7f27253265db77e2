-- A question written out in full, and its chain of references (02, request 2026-01).
use Rattle.std.specs.Prelude.{List, [], ◌∷◌, ◌++◌, ℕ, suc, max, length}
use Rattle.theory.specs.Graph.{Comparison, same, differ}
use Rattle.theory.specs.Expression.{PathExpr, NodeExpr, stay, step, test, seq, union, neg, conj, disj, exists, compare}
use Rattle.text.specs.Text.{ascii, decimal}

-- The sign between the two ways of a comparison.
unfoldable pub sign_text : Comparison → List ℕ
sign_text same = ascii "="
sign_text differ = ascii "!="

-- "An empty way `.`": what stands for a way that has no steps.
unfoldable pub or_stay : List ℕ → List ℕ
or_stay [] = ascii "."
or_stay (b ∷ bs) = b ∷ bs

-- "A question is written by its ways, and a way by the questions at its steps."
unfoldable mutual
  -- The steps of a way: "a step `/label[p]` with the label in base ten". (No entry spells a choice of two ways, and 02 gives it no text.)
  pub steps_text : PathExpr → List ℕ
  steps_text stay = []
  steps_text (step a) = ascii "/" ++ decimal a
  steps_text (test q) = ascii "[" ++ (question_text q ++ ascii "]")
  steps_text (seq w v) = steps_text w ++ steps_text v
  steps_text (union w v) = ascii "(" ++ (steps_text w ++ (ascii "+" ++ (steps_text v ++ ascii ")")))

  -- "True `<.>`, not `!(p)`, and `(p&q)`, or `(p|q)`, way `<w>`, same `<w=v>`, differ `<w!=v>`." (True is the way with no steps.)
  pub question_text : NodeExpr → List ℕ
  question_text (neg p) = ascii "!(" ++ (question_text p ++ ascii ")")
  question_text (conj p q) = ascii "(" ++ (question_text p ++ (ascii "&" ++ (question_text q ++ ascii ")")))
  question_text (disj p q) = ascii "(" ++ (question_text p ++ (ascii "|" ++ (question_text q ++ ascii ")")))
  question_text (exists w) = ascii "<" ++ (or_stay (steps_text w) ++ ascii ">")
  question_text (compare t w v) = ascii "<" ++ (or_stay (steps_text w) ++ (sign_text t ++ (or_stay (steps_text v) ++ ascii ">")))

-- A way written out.
abbrev pub way_text : PathExpr → List ℕ
way_text w = or_stay (steps_text w)

-- The length of a question's text.
abbrev pub text_length : NodeExpr → ℕ
text_length q = length (question_text q)

-- The references of the longest chain that leads from a question: a not, and or or refers to its parts, and a step to its test. (`chain_entry`
-- says the same of a sheet's entry and the numbers in it.)
unfoldable mutual
  pub way_chain : PathExpr → ℕ
  way_chain stay = 0
  way_chain (step a) = 0
  way_chain (test q) = suc (chain q)
  way_chain (seq w v) = max (way_chain w) (way_chain v)
  way_chain (union w v) = max (way_chain w) (way_chain v)

  pub chain : NodeExpr → ℕ
  chain (neg p) = suc (chain p)
  chain (conj p q) = max (suc (chain p)) (suc (chain q))
  chain (disj p q) = max (suc (chain p)) (suc (chain q))
  chain (exists w) = way_chain w
  chain (compare t w v) = max (way_chain w) (way_chain v)

-- "28, a chain of more than 1,024 references leads from the entry."
abbrev pub most_chain : ℕ
most_chain = 1024

-- "29, the length exceeds 4,294,967,295."
abbrev pub most_length : ℕ
most_length = 4294967295
