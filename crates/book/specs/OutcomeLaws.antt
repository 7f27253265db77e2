-- What the operations on a book answer has room in an outcome's bits.
use Rattle.std.specs.Prelude.{Bool, true, false, not, ◌||◌, ◌≡◌, refl, List, ℕ, zero, suc, ◌+◌, ◌^◌, ◌≤◌, ◌<◌, eqb, ltb, leb, length, Ok}
use Rattle.std.proofs.Common.{arith, eqb-true, ne_eqb}
use Rattle.std.proofs.lemmas.Bool.{eqb-false}
use Rattle.outcome.specs.Outcome.{Fits, refused, of_left_book}
use Rattle.outcome.specs.OutcomeLaws.{accepted_fits, declined_fits}
use Rattle.outcome.specs.Refused.{number, named, of_part}
use Rattle.outcome.specs.declared.Refusal.TheVariants as says
use Rattle.outcome.specs.declared.Part.TheVariants as part
use Rattle.outcome.specs.RefusalLaws.{either, first_most, number-named}
use Rattle.book.specs.Book.{length_of, version_of, most_version, cells_of, links_of, link_place, link_at, counts_refusal, head_refusal, rises, link_refusal, links_refusal, book_refusal, book_answer, book_outcome}
use Rattle.book.specs.BookLinks.{first_link, count_out, part_from, links_answer, links_outcome}
use Rattle.book.specs.AcceptedLaws.{start_most, book_sizes, answer_accepted, answer_refused}
use Rattle.book.specs.OutgoingLaws.{first-before}

-- The refusals of a book are 1 to 7.
abbrev Few : ℕ → Type 0
Few r = r ≤ 7

head-most : (s : List ℕ) → Few (head_refusal s)
unfolding head_refusal counts_refusal
head-most s =
    either Few (ltb (length s) 8) (λ _. omega arith) (λ _.
    either Few (not (eqb (length_of s) (length s))) (λ _. omega arith) (λ _.
    either Few (ltb (version_of s) 1 || ltb most_version (version_of s)) (λ _. omega arith) (λ _.
    either Few (ltb (cells_of s) 1 || (ltb 64 (cells_of s) || ltb 512 (links_of s))) (λ _. omega arith) (λ _.
    either Few (not (eqb (length_of s) (link_place s (links_of s)))) (λ _. omega arith) (λ _. omega arith)))))

links_most : (s : List ℕ) (k left : ℕ) → Few (links_refusal s k left)
unfolding links_refusal link_refusal
links_most s k zero = omega arith
links_most s k (suc left) =
    first_most 7
    (either Few (leb (cells_of s) (link_at s k).from || leb (cells_of s) (link_at s k).to) (λ _. omega arith) (λ _.
    either Few (not (rises s k)) (λ _. omega arith) (λ _. omega arith)))
    (links_most s (suc k) left)

pub book_refusal_most : (s : List ℕ) → book_refusal s ≤ 7
unfolding book_refusal
book_refusal_most s = first_most 7 (head-most s) (links_most s 0 (links_of s))

-- a book's refusal is that of its name
pub book_named : (s : List ℕ) → (book_refusal s ≡ 0 → ⊥) → number (named (book_refusal s)) ≡ book_refusal s
book_named s f = go (book_refusal s) f (book_refusal_most s)
  where
    go : (r : ℕ) → (r ≡ 0 → ⊥) → r ≤ 7 → number (named r) ≡ r
    go zero f h = absurd (f refl)
    go (suc r) f h = number-named r (omega arith)

module _ (s : List ℕ) where
  -- Check a book: the refusal is told by its number, of the left or only book,
  pub book_declined : (book_refusal s ≡ 0 → ⊥) → book_outcome (book_answer s) ≡ refused of_left_book (book_refusal s)
  book_declined f = rw (answer_refused s f, book_named s f)

  -- and so it is by Links
  pub links_declined : (book_refusal s ≡ 0 → ⊥) → (x : ℕ) → links_outcome (links_answer s x) ≡ refused of_left_book (book_refusal s)
  unfolding links_answer
  links_declined f x = rw (ne_eqb (book_refusal s) 0 f, book_named s f)

  -- n and e, or the refusal, fit
  pub book_fits : Fits (book_outcome (book_answer s))
  book_fits = go (eqb (book_refusal s) 0) refl
    where
      go : (t : Bool) → eqb (book_refusal s) 0 ≡ t → Fits (book_outcome (book_answer s))
      go true e =
          let z = eqb-true _ _ e in
          let d = book_sizes s z in
          rw (answer_accepted s z) (accepted_fits (cells_of s) (links_of s) (omega (arith, d.few)) (omega (arith, d.most)))
      go false e = rw (answer_refused s (eqb-false _ _ e)) (declined_fits (of_part part.LeftBook (named (book_refusal s))))

-- Links: the count and the start, the refusal, or 26.
pub links_fits : (s : List ℕ) (x : ℕ) → Fits (links_outcome (links_answer s x))
unfolding links_answer part_from
links_fits s x =
    either (λ a. Fits (links_outcome a)) (eqb (book_refusal s) 0)
    (λ e. either (λ a. Fits (links_outcome a)) (leb (cells_of s) x) (λ _. declined_fits (of_part part.Call says.NoPlace)) (λ _.
    let d = book_sizes s (eqb-true _ _ e) in
    run (first_link s x) (count_out s x) (omega (arith, d.most, d.few, (first-before s x).most, start_most s (cells_of s) (first_link s x))) (omega (arith, d.most, (first-before s (x + 1)).most))))
    (λ _. declined_fits (of_part part.LeftBook (named (book_refusal s))))
  where
    run : (k count : ℕ) → link_place s k < 2 ^ 24 → count < 2 ^ 24 → Fits (links_outcome (Ok (part_from s k count)))
    run k zero h l = accepted_fits 0 0 (omega arith) (omega arith)
    run k (suc count) h l = accepted_fits (suc count) (link_place s k) l h
