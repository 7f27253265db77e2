-- Writing a question's text into lent room: what the writers need, and the pieces that they write.
use Rattle.std.specs.Prelude.{cond, List, [], ◌∷◌, ◌++◌, ◌≡◌, ℕ, ◌+◌, ◌*◌, ◌≤◌, ◌<◌, eqb, length}
use Rattle.theory.specs.Graph.{same, differ}
use Rattle.theory.specs.Expression.{NodeExpr}
use Rattle.sheet.specs.Entry.{second_way, spell_way, expressions, tests, Below}
use Rattle.sheet.specs.Sheet.{count_of, step_width, entry_at, entries_of, entry_start, sheet_refusal}
use Rattle.sheet.specs.Reading.{steps_of}
use Rattle.sheet.specs.declared.Steps.{Steps}
use Rattle.text.specs.Text.{decimal}
use Rattle.question_measure.specs.Text.{sign_text, way_text, steps_text}
use Rattle.question_measure.specs.Holds.{Holds}

-- The first n entries of an accepted sheet start where the list says.
pub record Started (s starts : List ℕ) (n : ℕ) : Type 0 where
  pub good : sheet_refusal s ≡ 0
  pub entries : n ≤ count_of s
  pub listed : n ≤ length starts
  pub places : Holds (entry_start s) n starts

-- The byte between the parts of an entry of kind 2, an and, or 3, an or.
abbrev pub junction_by : ℕ → ℕ
junction_by kind = cond (eqb kind 2) 38 124

-- The sign between the ways of an entry of kind 5, a same, or 6, a differ.
unfoldable pub sign_by : ℕ → List ℕ
sign_by kind = cond (eqb kind 5) (sign_text same) (sign_text differ)

-- The questions of a sheet.
abbrev pub questions_of : List ℕ → List NodeExpr
questions_of s = expressions (entries_of s)

-- Entry k, which starts at `start`. The list says where it starts.
pub record EntryAt (s starts : List ℕ) (k start : ℕ) : Type 0 where
  pub listed : k < length starts
  pub place : start ≡ entry_start s k

-- The steps of a way of entry k. The list says where the entries before it start.
pub record WayOf (s starts : List ℕ) (k : ℕ) (w : Steps) : Type 0 where
  pub listed : k ≤ length starts
  pub inside : w.start + step_width w.version * w.count ≤ length s
  pub earlier : Below k (tests (steps_of s w))

-- The start of a step: a slash and its label.
abbrev pub label_text : ℕ → List ℕ
label_text label = 47 ∷ decimal label

-- A text between two bytes.
abbrev pub between : ℕ → List ℕ → ℕ → List ℕ
between before text after = before ∷ (text ++ (after ∷ []))

-- The text of a way's steps.
abbrev pub steps_text_of : List ℕ → Steps → List ℕ
steps_text_of s w = steps_text (spell_way (questions_of s) (steps_of s w))

-- The text of a way.
abbrev pub way_text_of : List ℕ → Steps → List ℕ
way_text_of s w = way_text (spell_way (questions_of s) (steps_of s w))

-- What follows the first way of the same (kind 5) or differ (kind 6) at `start`: its sign, its second way, and the end.
abbrev pub second_text : List ℕ → ℕ → ℕ → List ℕ
second_text s kind start = sign_by kind ++ (way_text (spell_way (questions_of s) (second_way (entry_at s start))) ++ (62 ∷ []))
