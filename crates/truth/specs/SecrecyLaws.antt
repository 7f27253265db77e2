-- What is hidden does not tell (02, 2026-07): "Suppose accepted books keep cell count, version and word, and differ only in recordings of hidden
-- cells and links touching them"; then "Truth's words for one sheet are alike", and so is all that Claim says.
use Rattle.std.specs.Prelude.{Bool, List, ◌++◌, ◌≡◌, ℕ, length, Result, Ok, Err}
use Rattle.std.proofs.Math.Path.{refl, ap}
use Rattle.std.proofs.Common.{sym, ap₂, ◌∙◌}
use Rattle.theory.specs.Search.{list}
use Rattle.theory.specs.Graph.{Graph}
use Rattle.outcome.specs.declared.Refused.{Refused}
use Rattle.book.specs.Book.{book_refusal}
use Rattle.book.specs.BookGraph.{hides_beyond}
use Rattle.book.specs.Contents.{SameSeen}
use Rattle.book.specs.SeenLaws.{seen_alike}
use Rattle.book.specs.declared.Hidden.{Hidden}
use Rattle.sheet.specs.Sheet.{question_of}
use Rattle.evaluate.specs.QuestionWord.{truth_word}
use Rattle.truth.specs.Truth.{first_words, truth_answer, left_by, parts, claim_answer, left_by_claim, IsTruth, IsClaim}

-- ---- Truth
module _ (b b' : List ℕ) (h : ℕ) (p : book_refusal b ≡ 0) (p' : book_refusal b' ≡ 0) (d : SameSeen h b b') where
  beyond_alike : hides_beyond h b ≡ hides_beyond h b'
  unfolding hides_beyond
  beyond_alike = rw d.cells

  words_alike : (s : List ℕ) (k : ℕ) (ws : List ℕ) → first_words b h s k ws ≡ first_words b' h s k ws
  unfolding first_words
  words_alike s k ws = ap₂ ◌++◌ (ap (λ (g : Graph). list k (λ i. truth_word g (question_of s i))) (seen_alike h b b' p p' d)) refl

  answer_alike : (s : List ℕ) (m : ℕ) → truth_answer b h s m ≡ truth_answer b' h s m
  unfolding truth_answer
  answer_alike s m = rw (p, p', beyond_alike)

  left_alike : (s ws : List ℕ) (a : Result (Unit {0}) Refused) → left_by b h s ws a ≡ left_by b' h s ws a
  unfolding left_by
  left_alike s ws (Ok _) = words_alike s _ ws
  left_alike s ws (Err _) = refl

  -- two calls with one sheet and the same words at entry have the same answer and the same words at exit
  pub truth_alike : (s ws ws₁ ws₂ : List ℕ) (a₁ a₂ : Result (Unit {0}) Refused) → IsTruth b h s ws a₁ ws₁ → IsTruth b' h s ws a₂ ws₂
      → (a₁ ≡ a₂) × (ws₁ ≡ ws₂)
  truth_alike s ws ws₁ ws₂ a₁ a₂ x y =
      let e = answer_alike s (length ws) in
      (x.answer ∙ e ∙ sym y.answer, x.words ∙ ap (left_by b h s ws) e ∙ left_alike s ws _ ∙ sym y.words)

  claimed_alike : (s ws : List ℕ) (a : Result Bool Refused) → left_by_claim b h s ws a ≡ left_by_claim b' h s ws a
  unfolding left_by_claim
  claimed_alike s ws (Ok _) = words_alike s _ ws
  claimed_alike s ws (Err _) = refl

-- ---- Claim
module _ (l l' r r' : List ℕ) (h : Hidden) (p : book_refusal l ≡ 0) (p' : book_refusal l' ≡ 0) (q : book_refusal r ≡ 0) (q' : book_refusal r' ≡ 0)
    (d : SameSeen h.left l l') (e : SameSeen h.right r r') where
  parts_alike : (s : List ℕ) (k i j : ℕ) → parts l r h s k i j ≡ parts l' r' h s k i j
  unfolding parts
  parts_alike s k i j = rw (seen_alike h.left l l' p p' d, seen_alike h.right r r' q q' e)

  claim_answer_alike : (s : List ℕ) (k i j m : ℕ) → claim_answer l r h s k i j m ≡ claim_answer l' r' h s k i j m
  unfolding claim_answer
  claim_answer_alike s k i j m =
      rw (parts_alike s k i j, p, p', q, q', beyond_alike l l' h.left p p' d, beyond_alike r r' h.right q q' e, d.cells, e.cells)

  pub claim_alike : (s : List ℕ) (k i j : ℕ) (ws ws₁ ws₂ : List ℕ) (a₁ a₂ : Result Bool Refused) → IsClaim l r h s k i j ws a₁ ws₁ → IsClaim l' r' h s k i j ws a₂ ws₂
      → (a₁ ≡ a₂) × (ws₁ ≡ ws₂)
  claim_alike s k i j ws ws₁ ws₂ a₁ a₂ x y =
      let f = claim_answer_alike s k i j (length ws) in
      (x.answer ∙ f ∙ sym y.answer, x.words ∙ ap (left_by_claim r h.right s ws) f ∙ claimed_alike r r' h.right q q' e s ws _ ∙ sym y.words)
