-- Open this file first: the demands of the papers as theorems about what Compare, Truth and Claim leave, whoever wrote their code. `IsCompare`, `IsTruth` and
-- `IsClaim` are what `compare::compare`, `truth::truth` and `truth::claim` are proved to promise; of the functions for C (crate `capi`) see the end. Demand 1 (any
-- bytes, numbers and lists are answered as 01 fixes, and a refusal leaves every list as it came) is each operation's promise itself, an equation with
-- definitions, and that no function asks anything of its caller.
-- The definitions that a theorem names are found by the `use` lines; what 000 says of their meaning is `Figure3Laws` of the theory, and what the macros
-- of include/cuhnavel.h take out of an answer is `OutcomeLaws` of outcome and of each operation's crate.
use Rattle.std.specs.Prelude.{Bool, true, false, ◌&&◌, ◌||◌, List, ◌++◌, ◌↔◌, ◌≢◌, ◌≡◌, refl, ℕ, ◌+◌, ◌-◌, ◌*◌, ◌≤◌, ◌<◌, ltb, take, drop, get_or, Result, Ok}
use Rattle.std.proofs.Math.Bool.{not}
use Rattle.std.proofs.Common.{sym, ◌∙◌, arith}
use Rattle.std.proofs.Math.Path.{ap}
use borrow.Author.Tests.{le-ltb, eq-eqb}
use Rattle.std.proofs.Math.ListN.{length}
use Rattle.fields.specs.Fields.{Bytes}
use Rattle.theory.specs.Expression.{NodeExpr, Positive}
use Rattle.theory.specs.Meaning.{holds}
use Rattle.theory.specs.Bound.{Within, depth}
use Rattle.theory.specs.Bisimulation.{Sides, one_sided, two_sided, Greatest}
use Rattle.theory.specs.Parting.{LeastDepth}
use Rattle.words.specs.Words.{bit}
use Rattle.words.specs.Laws.{bit-word_of, bit-word_of-lt}
use Rattle.outcome.specs.Outcome.{code}
use Rattle.outcome.specs.declared.Refused.{Refused}
use Rattle.book.specs.declared.Hidden.{Hidden}
use Rattle.book.specs.Book.{cells_of, book_refusal}
use Rattle.book.specs.BookGraph.{hides, hides_beyond, hiding, seen_of, Cell}
use Rattle.book.specs.Contents.{SameContents, SameSeen}
use Rattle.book.specs.AcceptedLaws.{book_sizes}
use Rattle.sheet.specs.Sheet.{hidden_place, length_of, count_of, question_of, sheet_refusal, heading, sheet_answer}
use Rattle.evaluate.specs.QuestionWord.{question_word}
use Rattle.evaluate.specs.WritingLaws.{over-at}
use Rattle.truth.specs.Truth.{first_words, truth_answer, truth_outcome, claim_answer, claim_outcome, IsTruth, IsTruthCode, IsClaim, IsClaimCode}
use Rattle.truth.specs.Truth as truth
use Rattle.truth.specs.SecrecyLaws.{truth_alike, claim_alike}
use Rattle.answers.specs.Row.{zero_from, row, row_word, row_count, row_answer}
use Rattle.answers.specs.RowLaws.{row-given}
use Rattle.answers.specs.Pair.{place_of, place_answer, pair_answer}
use Rattle.answers.specs.PairLaws.{pair_given}
use Rattle.answers.specs.declared.Said.TheVariants as pair
use Rattle.compare_laws.specs.Places.{placed, zeros, zero_pairs}
use Rattle.compare_laws.proofs.PlaceLaws.{place_below}
use Rattle.compare.specs.declared.Compared.{Compared}
use Rattle.compare.specs.Compare.{serves, compared_map, compared_sheet, Lists, left_by, right_answer, compare_outcome, IsCompare, IsCompareCode, Accepts}
use Rattle.compare.specs.Parted.{PartedBy}
use Rattle.compare.specs.Promises.{Given, map_places, hidden-place, sheet_accepted, sheet_found, zeros_greatest, zero_keeps, nonzero_least, nonzero_parts, zero_exactly, contents_alike}
use Rattle.compare.specs.SecrecyLaws.{seen_compared}
use Rattle.compare.specs.Laws.{accepts_compared}

-- ---- what Compare leaves

-- The sheet that starts the room: it is as long as it says.
abbrev pub sheet_in : List ℕ → List ℕ
sheet_in room = take (length_of room) room

module _ {x : Sides} {l r : List ℕ} {c : ℕ} {hidden : Hidden} {before now : Lists} {a : Result Compared Refused} (t : IsCompare x l r c hidden before a now) (bytes : Bytes l × Bytes r)
    (given : Accepts l r c hidden (length before.map) (length before.room) (length before.scratch)) where
  is_compared : right_answer x l r c hidden before ≡ serves (length (compared_sheet x l r c hidden)) (zeros (compared_map x l r c hidden))
  is_compared = accepts_compared l r c hidden _ _ _ _ _ given

  left : now ≡ left_by x l r c hidden before (serves (length (compared_sheet x l r c hidden)) (zeros (compared_map x l r c hidden)))
  left = t.lists ∙ ap (left_by x l r c hidden before) is_compared

  map_is : now.map ≡ compared_map x l r c hidden
  unfolding left_by
  map_is = ap (λ (x : Lists). x.map) left

  room_is : now.room ≡ compared_sheet x l r c hidden ++ drop (length (compared_sheet x l r c hidden)) before.room
  unfolding left_by
  room_is = ap (λ (x : Lists). x.room) left

  books : Given l r c
  books = record { bytes = bytes; left = given.left; right = given.right; bound = given.bound }

  sheet_is : sheet_in now.room ≡ compared_sheet x l r c hidden
  sheet_is = ap sheet_in room_is ∙ sheet_found x hidden books (drop (length (compared_sheet x l r c hidden)) before.room)

  -- For accepted books, a bound of 0 to 4 and lists as long as 01 asks for, Compare, one-way too, answers with the length of the sheet and the number of zeros;
  pub answers : a ≡ serves (length (sheet_in now.room)) (zeros now.map)
  answers = t.answer ∙ is_compared ∙ rw (sheet_is, map_is)

  -- the sheet at the room's start is accepted, with bound c.
  pub accepts_sheet : sheet_answer (sheet_in now.room) ≡ Ok (heading (count_of (sheet_in now.room)) c)
  accepts_sheet = rw sheet_is (sheet_accepted x hidden books)

  module _ (i j : ℕ) (o : Cell hidden.left l i) (u : Cell hidden.right r j) where
    -- What the map names for a parted pair, in either form; demand 3 and 02, 2026-03, below, say it in their words.
    pub named-parts : placed (cells_of r) now.map i j ≢ 0 → PartedBy x l r c hidden (sheet_in now.room) i j (placed (cells_of r) now.map i j)
    named-parts = rw (map_is, sheet_is) (nonzero_parts x hidden books i j o u)

    -- "The question for each parted pair has exactly the smallest depth of any question within the bound that is true left and false right. One-way, the smallest among
    -- those without "not"" (02, 2026-06). That it is "no deeper than n × m" follows from this: some such question is (`told_shallow` of the theory).
    pub named_least : placed (cells_of r) now.map i j ≢ 0
        → LeastDepth x (seen_of hidden.left l) (seen_of hidden.right r) c i j (depth (question_of (sheet_in now.room) (placed (cells_of r) now.map i j)))
    named_least = rw (map_is, sheet_is) (nonzero_least x hidden books i j o u)

module _ {l r : List ℕ} {c : ℕ} {hidden : Hidden} {before now : Lists} {a : Result Compared Refused} (t : IsCompare two_sided l r c hidden before a now) (bytes : Bytes l × Bytes r)
    (given : Accepts l r c hidden (length before.map) (length before.room) (length before.scratch)) where
  -- Demand 2: "For accepted books and a bound of 0 to 4, the pairs marked matched are the greatest data-aware bisimulation for that bound: they form one, and
  -- every other lies within." Every other relation at all, computed or not: `Greatest` says so.
  pub demand_2 : Greatest two_sided (seen_of hidden.left l) (seen_of hidden.right r) c (zero_pairs (seen_of hidden.left l) (seen_of hidden.right r) now.map)
  demand_2 = rw (map_is t bytes given) (zeros_greatest two_sided hidden (books t bytes given))

  module _ (i j : ℕ) (o : Cell hidden.left l i) (u : Cell hidden.right r j) where
    -- Demand 3: "A pair is marked matched exactly when every question within the bound, however large or nested, is true at both cells or false at both;"
    pub demand_3_matched : (placed (cells_of r) now.map i j ≡ 0) ↔ ((q : NodeExpr) → Within c q → holds (seen_of hidden.left l) q i ≡ holds (seen_of hidden.right r) q j)
    demand_3_matched = rw (map_is t bytes given) (zero_exactly hidden (books t bytes given) i j o u)

    -- "each parted pair's map entry names a question of the sheet within the bound, true left, false right, no deeper than left cells × right cells."
    pub demand_3_parted : placed (cells_of r) now.map i j ≢ 0 → PartedBy two_sided l r c hidden (sheet_in now.room) i j (placed (cells_of r) now.map i j)
    demand_3_parted = named-parts t bytes given i j o u

-- ---- what Compare leaves one-way (02, 2026-03)

module _ {l r : List ℕ} {c : ℕ} {hidden : Hidden} {before now : Lists} {a : Result Compared Refused} (t : IsCompare one_sided l r c hidden before a now) (bytes : Bytes l × Bytes r)
    (given : Accepts l r c hidden (length before.map) (length before.room) (length before.scratch)) where
  -- "the greatest relation with the clauses from left to right only (a simulation in source 000)": the covered pairs are one, and every other lies within.
  pub covered_greatest : Greatest one_sided (seen_of hidden.left l) (seen_of hidden.right r) c (zero_pairs (seen_of hidden.left l) (seen_of hidden.right r) now.map)
  covered_greatest = rw (map_is t bytes given) (zeros_greatest one_sided hidden (books t bytes given))

  module _ (i j : ℕ) (o : Cell hidden.left l i) (u : Cell hidden.right r j) where
    -- "A covered pair keeps every such question within the bound that is true on the left", where such a question is one without "not"; and only a covered one does.
    pub covered_exactly : (placed (cells_of r) now.map i j ≡ 0)
        ↔ ((q : NodeExpr) → Within c q → Positive q → holds (seen_of hidden.left l) q i ≡ true → holds (seen_of hidden.right r) q j ≡ true)
    covered_exactly =
        let keeps = zero_keeps one_sided hidden (books t bytes given) i j o u in
        rw (map_is t bytes given) (λ e q w p. keeps.0 e q w (λ _. p), λ k. keeps.1 (λ q w p. k q w (p refl)))

    -- "Each uncovered pair gets a question without "not" that is true left and false right": one of the sheet, within the bound, no deeper than left cells × right
    -- cells.
    pub uncovered_told : placed (cells_of r) now.map i j ≢ 0 → PartedBy one_sided l r c hidden (sheet_in now.room) i j (placed (cells_of r) now.map i j)
    uncovered_told = named-parts t bytes given i j o u

-- "Matched pairs are covered both ways": of three calls on two books and a bound.
module _ {l r : List ℕ} {c : ℕ} {hidden : Hidden} {before now before₁ now₁ before₂ now₂ : Lists} {a a₁ a₂ : Result Compared Refused} (t : IsCompare two_sided l r c hidden before a now)
    (t₁ : IsCompare one_sided l r c hidden before₁ a₁ now₁) (t₂ : IsCompare one_sided r l c (hiding hidden.right hidden.left) before₂ a₂ now₂) (bytes : Bytes l × Bytes r)
    (given : Accepts l r c hidden (length before.map) (length before.room) (length before.scratch))
    (given₁ : Accepts l r c hidden (length before₁.map) (length before₁.room) (length before₁.scratch))
    (given₂ : Accepts r l c (hiding hidden.right hidden.left) (length before₂.map) (length before₂.room) (length before₂.scratch)) where
  pub matched_covered : (i j : ℕ) → Cell hidden.left l i → Cell hidden.right r j → placed (cells_of r) now.map i j ≡ 0
      → (placed (cells_of r) now₁.map i j ≡ 0) × (placed (cells_of l) now₂.map j i ≡ 0)
  matched_covered i j o u e =
      let agrees = (demand_3_matched t bytes given i j o u).0 e in (
        (covered_exactly t₁ bytes given₁ i j o u).1 (λ q w _ h. sym (agrees q w) ∙ h),
        (covered_exactly t₂ (bytes.1, bytes.0) given₂ j i u o).1 (λ q w _ h. agrees q w ∙ h),
      )

-- "Version 1 is still read, its labels as the same numbers" (02, 2026-02): two calls, of either form, on books with the same cells and links, of whatever versions, leave
-- the same map, and so match or cover the same pairs.
module _ {x : Sides} {l l' r r' : List ℕ} {c : ℕ} {hidden : Hidden} {before now before' now' : Lists} {a a' : Result Compared Refused} (t : IsCompare x l r c hidden before a now) (t' : IsCompare x l' r' c hidden before' a' now')
    (bytes : (Bytes l × Bytes r) × (Bytes l' × Bytes r')) (given : Accepts l r c hidden (length before.map) (length before.room) (length before.scratch))
    (given' : Accepts l' r' c hidden (length before'.map) (length before'.room) (length before'.scratch)) where
  pub versions_alike : SameContents l l' → SameContents r r' → now.map ≡ now'.map
  versions_alike d e = map_is t bytes.0 given ∙ (contents_alike x l l' r r' c hidden d e).0 ∙ sym (map_is t' bytes.1 given')

-- ---- private pages (02, 2026-07)

-- "Map places with a hidden cell get 65,535, Pair says hidden, and Row leaves their bits clear", in either form:
module _ {x : Sides} {l r : List ℕ} {c : ℕ} {hidden : Hidden} {before now : Lists} {a : Result Compared Refused} (t : IsCompare x l r c hidden before a now) (bytes : Bytes l × Bytes r)
    (given : Accepts l r c hidden (length before.map) (length before.room) (length before.scratch)) where
  -- the place holds 65,535, and no other does;
  pub hidden_places : (i j : ℕ) → i < cells_of l → j < cells_of r
      → (placed (cells_of r) now.map i j ≡ hidden_place) ↔ ((hides hidden.left i || hides hidden.right j) ≡ true)
  hidden_places = rw (map_is t bytes given) (hidden-place x hidden (books t bytes given))

  module _ (i j : ℕ) (o : i < cells_of l) (u : j < cells_of r) (hides-one : (hides hidden.left i || hides hidden.right j) ≡ true) where
    place_is : placed (cells_of r) now.map i j ≡ hidden_place
    place_is = (hidden_places i j o u).1 hides-one

    -- Pair says hidden there, with the sheet that Compare leaves and with every other that is accepted;
    pub hidden_pair : (s : List ℕ) → sheet_refusal s ≡ 0 → pair_answer now.map (i * cells_of r + j) s ≡ Ok pair.Hidden
    unfolding place_answer place_of
    hidden_pair s good =
        let inside : i * cells_of r + j < length now.map = rw (map_is t bytes given, map_places x hidden (books t bytes given)) (place_below (cells_of l) (cells_of r) i j o u) in
        pair_given now.map (i * cells_of r + j) s (record { good = good; inside = inside }) ∙ rw place_is

    -- Row gives row i, with bit j clear.
    pub hidden-row : (row_answer now.map (cells_of r) i ≡ Ok (row (row_word now.map (cells_of r) i) (row_count now.map (cells_of r) i)))
        × (bit (row_word now.map (cells_of r) i) j ≡ false)
    hidden-row =
        let sizes = book_sizes r given.right in
        let inside : i * cells_of r + cells_of r ≤ length now.map = rw (map_is t bytes given, map_places x hidden (books t bytes given)) (omega (arith, sizes.some, place_below (cells_of l) (cells_of r) i (cells_of r - 1) o (omega (arith, sizes.some)))) in (
          row-given now.map (cells_of r) i (record { some = sizes.some; most = sizes.few; inside = inside }),
          bit-word_of-lt (cells_of r) (zero_from now.map (i * cells_of r)) j u ∙ rw place_is,
        )

-- "Suppose accepted books keep cell count, version and word, and differ only in recordings of hidden cells and links touching them. Then, all other arguments being
-- equal, the map, sheet and answer of Compare and its one-way form come out byte for byte alike": two calls on such books, with the same lists lent, answer the
-- same and leave the same, whether or not the answer is a refusal.
module _ {x : Sides} {l l' r r' : List ℕ} {c : ℕ} {hidden : Hidden} {before now now' : Lists} {a a' : Result Compared Refused}
    (t : IsCompare x l r c hidden before a now) (t' : IsCompare x l' r' c hidden before a' now') (left : (book_refusal l ≡ 0) × (book_refusal l' ≡ 0))
    (right : (book_refusal r ≡ 0) × (book_refusal r' ≡ 0)) where
  pub hidden_untold : SameSeen hidden.left l l' → SameSeen hidden.right r r' → (a ≡ a') × (now ≡ now')
  hidden_untold d e =
      let (same, leaves) = seen_compared x l l' r r' c hidden before left right d e in
      (t.answer ∙ same ∙ sym t'.answer, t.lists ∙ leaves ∙ sym t'.lists)

-- "Truth's words for one sheet are alike too", and its answer;
module _ (b b' : List ℕ) (h : ℕ) (s ws now now' : List ℕ) {a a' : Result (Unit {0}) Refused} (t : IsTruth b h s ws a now) (t' : IsTruth b' h s ws a' now')
    (accepted : (book_refusal b ≡ 0) × (book_refusal b' ≡ 0)) where
  pub hidden_untrue : SameSeen h b b' → (a ≡ a') × (now ≡ now')
  hidden_untrue d = truth_alike b b' h accepted.0 accepted.1 d s ws now now' a a' t t'

-- and so are Claim's answer and words.
module _ (l l' r r' : List ℕ) (hidden : Hidden) (s : List ℕ) (k i j : ℕ) (ws now now' : List ℕ) {a a' : Result Bool Refused} (t : IsClaim l r hidden s k i j ws a now)
    (t' : IsClaim l' r' hidden s k i j ws a' now') (left : (book_refusal l ≡ 0) × (book_refusal l' ≡ 0)) (right : (book_refusal r ≡ 0) × (book_refusal r' ≡ 0)) where
  pub hidden_unclaimed : SameSeen hidden.left l l' → SameSeen hidden.right r r' → (a ≡ a') × (now ≡ now')
  hidden_unclaimed d e = claim_alike l l' r r' hidden left.0 left.1 right.0 right.1 d e s k i j ws now now' a a' t t'

-- ---- what Truth leaves

module _ (b : List ℕ) (h : ℕ) (s ws ws' : List ℕ) {a : Result (Unit {0}) Refused} (t : IsTruth b h s ws a ws') (book : book_refusal b ≡ 0) (word : hides_beyond h b ≡ false)
    (sheet : sheet_refusal s ≡ 0) (words : count_of s ≤ length ws) where
  is_done : truth_answer b h s (length ws) ≡ Ok tt
  unfolding truth_answer
  is_done = simp (eq-eqb (book_refusal b) 0 book, word, eq-eqb (sheet_refusal s) 0 sheet, le-ltb (length ws) (count_of s) words)

  -- For an accepted book and sheet, a word that hides cells of the book and as many words as entries Truth is done,
  pub truth_answers : a ≡ Ok tt
  truth_answers = t.answer ∙ is_done

  -- and bit i of word k says whether there is a cell i that is not hidden and question k is true there. Demand 2: "Each question of a sheet is true exactly where source
  -- 000's meaning makes it true."
  pub demand_2_questions : (k i : ℕ) → k < count_of s → bit (get_or ws' k 0) i ≡ (ltb i (cells_of b) && (not (hides h i) && holds (seen_of h b) (question_of s k) i))
  unfolding truth.left_by first_words
  demand_2_questions k i o =
      rw (t.words, is_done)
      (ap (λ (w : ℕ). bit w i) (over-at (count_of s) (question_word (seen_of h b) s) ws k o) ∙ bit-word_of (cells_of b) (λ x. not (hides h x) && holds (seen_of h b) (question_of s k) x) i)

-- ---- callers in C

-- The functions for C are proved to promise the same, with the answer as one number (`IsCompareCode`, `IsTruthCode`, `IsClaimCode`). So all that stands above holds of
-- what they leave and of the answer whose number they give:
pub compare_in_c : (x : Sides) (l r : List ℕ) (c : ℕ) (hidden : Hidden) (before now : Lists) (v : ℕ) → IsCompareCode x l r c hidden before v now
    → (a : Result Compared Refused) × IsCompare x l r c hidden before a now × (v ≡ code (compare_outcome a))
compare_in_c x l r c hidden before now v t = (right_answer x l r c hidden before, record { answer = refl; lists = t.lists }, t.answer)

pub truth_in_c : (b : List ℕ) (h : ℕ) (s ws now : List ℕ) (v : ℕ) → IsTruthCode b h s ws v now → (a : Result (Unit {0}) Refused) × IsTruth b h s ws a now × (v ≡ code (truth_outcome a))
truth_in_c b h s ws now v t = (truth_answer b h s (length ws), record { answer = refl; words = t.words }, t.answer)

pub claim_in_c : (l r : List ℕ) (hidden : Hidden) (s : List ℕ) (k i j : ℕ) (ws now : List ℕ) (v : ℕ) → IsClaimCode l r hidden s k i j ws v now
    → (a : Result Bool Refused) × IsClaim l r hidden s k i j ws a now × (v ≡ code (claim_outcome a))
claim_in_c l r hidden s k i j ws now v t = (claim_answer l r hidden s k i j (length ws), record { answer = refl; words = t.words }, t.answer)

-- What is hidden is not told by the numbers either.
module _ (x : Sides) (l l' r r' : List ℕ) (c : ℕ) (hidden : Hidden) (before now now' : Lists) (v v' : ℕ) (t : IsCompareCode x l r c hidden before v now)
    (t' : IsCompareCode x l' r' c hidden before v' now') (left : (book_refusal l ≡ 0) × (book_refusal l' ≡ 0)) (right : (book_refusal r ≡ 0) × (book_refusal r' ≡ 0)) where
  pub untold_in_c : SameSeen hidden.left l l' → SameSeen hidden.right r r' → (v ≡ v') × (now ≡ now')
  untold_in_c d e =
      let (a, u, f) = compare_in_c x l r c hidden before now v t in
      let (a', u', f') = compare_in_c x l' r' c hidden before now' v' t' in
      let (same, leaves) = hidden_untold u u' left right d e in
      (f ∙ ap (λ b. code (compare_outcome b)) same ∙ sym f', leaves)
