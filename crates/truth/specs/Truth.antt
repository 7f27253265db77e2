-- Truth and Claim (01, "The operations and when they decline"), of books whose cells are hidden in part (02, 2026-07).
use Rattle.std.specs.Prelude.{Bool, cond, not, ◌&&◌, ◌||◌, List, ◌++◌, ◌≡◌, ℕ, eqb, ltb, leb, length, drop, Result, Ok, Err}
use Rattle.theory.specs.Search.{list}
use Rattle.theory.specs.Meaning.{holds}
use Rattle.outcome.specs.Outcome.{Outcome, accepted, code}
use Rattle.outcome.specs.Refused.{named, of_part, declined}
use Rattle.outcome.specs.declared.Refusal.TheVariants as says
use Rattle.outcome.specs.declared.Part.TheVariants as part
use Rattle.outcome.specs.declared.Refused.{Refused}
use Rattle.book.specs.Book.{cells_of, book_refusal}
use Rattle.book.specs.BookGraph.{hides, hides_beyond, seen_of}
use Rattle.book.specs.declared.Hidden.{Hidden}
use Rattle.sheet.specs.Sheet.{count_of, question_of, sheet_refusal}
use Rattle.evaluate.specs.QuestionWord.{truth_word}

-- ---- Truth

-- The first k words of the book b and the sheet s, written over ws: word i is the set of the cells where entry i is true (`truth_word`:
-- "word k gets bit i (value 2 to the i) exactly when entry k is true at cell i; bits from n up are 0"), of those that h does not hide, and
-- ws stays from word k on.
unfoldable pub first_words : List ℕ → ℕ → List ℕ → ℕ → List ℕ → List ℕ
first_words b h s k ws = list k (λ i. truth_word (seen_of h b) (question_of s i)) ++ drop k ws

-- All words: "words from q on stay".
abbrev pub truth_words : List ℕ → ℕ → List ℕ → List ℕ → List ℕ
truth_words b h s ws = first_words b h s (count_of s) ws

-- "Book's refusal, sheet's refusal, 24: fewer than q words", where m words are lent; and 31, "directly after the checks of all books given".
unfoldable pub truth_answer : List ℕ → ℕ → List ℕ → ℕ → Result (Unit {0}) Refused
truth_answer b h s m =
    cond (not (eqb (book_refusal b) 0)) (Err (of_part part.LeftBook (named (book_refusal b))))
    (cond (hides_beyond h b) (Err (of_part part.LeftBook says.HiddenBeyond))
    (cond (not (eqb (sheet_refusal s) 0)) (Err (of_part part.Sheet (named (sheet_refusal s))))
    (cond (ltb m (count_of s)) (Err (of_part part.Call says.FewWords)) (Ok tt))))

-- 01's number of each answer, and the part that a refusal speaks of.
abbrev pub truth_outcome : Result (Unit {0}) Refused → Outcome
truth_outcome (Ok _) = accepted 0 0
truth_outcome (Err r) = declined r

-- The words after an answer: "a refusal is a number; buffers stay untouched".
unfoldable pub left_by : List ℕ → ℕ → List ℕ → List ℕ → Result (Unit {0}) Refused → List ℕ
left_by b h s ws (Ok _) = truth_words b h s ws
left_by b h s ws (Err _) = ws

-- The words that Truth leaves.
abbrev pub truth_leaves : List ℕ → ℕ → List ℕ → List ℕ → List ℕ
truth_leaves b h s ws = left_by b h s ws (truth_answer b h s (length ws))

-- ---- Claim

-- "Yes exactly when the entry is true at the left and false at the right cell"; and "Claim says no if either of its cells is hidden".
unfoldable pub parts : List ℕ → List ℕ → Hidden → List ℕ → ℕ → ℕ → ℕ → Bool
parts l r h s k i j =
    (not (hides h.left i) && not (hides h.right j))
    && (holds (seen_of h.left l) (question_of s k) i && not (holds (seen_of h.right r) (question_of s k) j))

-- "Left, right, sheet refusals, 24, 25: entry not below q, 26: a cell not in its book", where m words are lent; and 31, "directly after the
-- checks of all books given, the left word first, with its side where there are two".
unfoldable pub claim_answer : List ℕ → List ℕ → Hidden → List ℕ → ℕ → ℕ → ℕ → ℕ → Result Bool Refused
claim_answer l r h s k i j m =
    cond (not (eqb (book_refusal l) 0)) (Err (of_part part.LeftBook (named (book_refusal l))))
    (cond (not (eqb (book_refusal r) 0)) (Err (of_part part.RightBook (named (book_refusal r))))
    (cond (hides_beyond h.left l) (Err (of_part part.LeftBook says.HiddenBeyond))
    (cond (hides_beyond h.right r) (Err (of_part part.RightBook says.HiddenBeyond))
    (cond (not (eqb (sheet_refusal s) 0)) (Err (of_part part.Sheet (named (sheet_refusal s))))
    (cond (ltb m (count_of s)) (Err (of_part part.Call says.FewWords))
    (cond (leb (count_of s) k) (Err (of_part part.Call says.NoEntry))
    (cond (leb (cells_of l) i || leb (cells_of r) j) (Err (of_part part.Call says.NoPlace))
    (Ok (parts l r h s k i j)))))))))

-- 01's number of each answer, 1 for yes, and the part that a refusal speaks of.
abbrev pub claim_outcome : Result Bool Refused → Outcome
claim_outcome (Ok told) = accepted (cond told 1 0) 0
claim_outcome (Err r) = declined r

-- The words after an answer: "the words end as Truth of the right book", for yes and for no; on a refusal they stay.
unfoldable pub left_by_claim : List ℕ → ℕ → List ℕ → List ℕ → Result Bool Refused → List ℕ
left_by_claim r h s ws (Ok _) = truth_words r h s ws
left_by_claim r h s ws (Err _) = ws

-- The words that Claim leaves.
abbrev pub claim_leaves : List ℕ → List ℕ → Hidden → List ℕ → ℕ → ℕ → ℕ → List ℕ → List ℕ
claim_leaves l r h s k i j ws = left_by_claim r h.right s ws (claim_answer l r h s k i j (length ws))

-- ---- what the operations promise

-- The answer a and the words ws at exit are the right ones.
pub record Told {A : Type 0} (right : A) (leaves : List ℕ) (a : A) (ws : List ℕ) : Type 0 where
  pub answer : a ≡ right
  pub words : ws ≡ leaves

-- Truth of the book b, whose cells h hides, and the sheet s with the words ws: its answer a, and the words ws' at exit.
abbrev pub IsTruth : List ℕ → ℕ → List ℕ → List ℕ → Result (Unit {0}) Refused → List ℕ → Type 0
IsTruth b h s ws a ws' = Told (truth_answer b h s (length ws)) (truth_leaves b h s ws) a ws'

-- The same, with the answer as one number.
abbrev pub IsTruthCode : List ℕ → ℕ → List ℕ → List ℕ → ℕ → List ℕ → Type 0
IsTruthCode b h s ws v ws' = Told (code (truth_outcome (truth_answer b h s (length ws)))) (truth_leaves b h s ws) v ws'

-- Claim of the books l and r, whose cells h hides, entry k of the sheet s and the cells i and j with the words ws: its answer a, and the words
-- ws' at exit.
abbrev pub IsClaim : List ℕ → List ℕ → Hidden → List ℕ → ℕ → ℕ → ℕ → List ℕ → Result Bool Refused → List ℕ → Type 0
IsClaim l r h s k i j ws a ws' = Told (claim_answer l r h s k i j (length ws)) (claim_leaves l r h s k i j ws) a ws'

-- The same, with the answer as one number.
abbrev pub IsClaimCode : List ℕ → List ℕ → Hidden → List ℕ → ℕ → ℕ → ℕ → List ℕ → ℕ → List ℕ → Type 0
IsClaimCode l r h s k i j ws v ws' = Told (code (claim_outcome (claim_answer l r h s k i j (length ws)))) (claim_leaves l r h s k i j ws) v ws'
