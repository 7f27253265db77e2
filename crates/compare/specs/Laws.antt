-- When Compare declines and when it does not, and what its values are at most.
use Rattle.std.specs.Prelude.{false, not, List, ℕ, ◌+◌, ◌*◌, ◌≤◌, eqb, ltb, Result, Ok, Err}
use Rattle.std.proofs.Math.Path.{◌≡◌}
use Rattle.std.proofs.Common.{sym, ap, ◌∙◌, mul-le-mul, arith}
use borrow.Author.Tests.{le-ltb, ltb-false, eq-eqb, eqb-true, not-false}
use Rattle.fields.specs.LabelLaws.{label-width}
use Rattle.outcome.specs.RefusalLaws.{passed_by}
use Rattle.book.specs.declared.Hidden.{Hidden}
use Rattle.book.specs.Book.{book_refusal}
use Rattle.book.specs.BookGraph.{hides_beyond}
use Rattle.book.specs.AcceptedLaws.{book_sizes}
use Rattle.sheet.specs.Sheet.{most_bound}
use Rattle.compare_laws.specs.Room.{pair_bytes, room_needed}
use Rattle.outcome.specs.declared.Refused.{Refused}
use Rattle.compare_lists.specs.BookSetting.{sheet_version}
use Rattle.compare.specs.declared.Compared.{Compared}
use Rattle.compare.specs.Compare.{pairs_of, scratch_needed, serves, lent_answer, compare_answer, Accepts}

-- the values of an answer, 0 where it is a refusal
abbrev sheet_told : Result Compared Refused → ℕ
sheet_told (Ok done) = done.sheet
sheet_told (Err _) = 0

abbrev count_told : Result Compared Refused → ℕ
count_told (Ok done) = done.matched
count_told (Err _) = 0

module _ (l r : List ℕ) (c : ℕ) (hidden : Hidden) (places room scratch sheet count : ℕ) where
  -- where only what is lent is still to be judged
  pub books_accepted : c ≤ most_bound → book_refusal l ≡ 0 → book_refusal r ≡ 0 → hides_beyond hidden.left l ≡ false → hides_beyond hidden.right r ≡ false
      → compare_answer l r c hidden places room scratch sheet count ≡ lent_answer (sheet_version l r) (pairs_of l r) places room scratch sheet count
  unfolding compare_answer
  books_accepted bound left right lw rw' = simp (le-ltb most_bound c bound, eq-eqb (book_refusal l) 0 left, eq-eqb (book_refusal r) 0 right, lw, rw')

  -- where nothing is to be declined Compare answers,
  pub accepts_compared : Accepts l r c hidden places room scratch → compare_answer l r c hidden places room scratch sheet count ≡ serves sheet count
  unfolding lent_answer
  accepts_compared g =
      books_accepted g.bound g.left g.right g.left_word g.right_word
      ∙ simp (eq-eqb places (pairs_of l r) g.map, le-ltb room (room_needed (sheet_version l r) (pairs_of l r)) g.roomy, le-ltb scratch (scratch_needed (pairs_of l r)) g.spare)

  -- and only then, with these values
  pub compared_accepts : (sheet' count' : ℕ) → serves sheet' count' ≡ compare_answer l r c hidden places room scratch sheet count
      → Accepts l r c hidden places room scratch × (sheet' ≡ sheet) × (count' ≡ count)
  unfolding compare_answer lent_answer
  compared_accepts sheet' count' h =
      let (bound, h1) = passed_by (ltb most_bound c) (λ e. let z : ◌≡◌ {A = ℕ} 0 1 = cc in omega arith) (sym h) in
      let (left, h2) = passed_by (not (eqb (book_refusal l) 0)) (λ e. let z : ◌≡◌ {A = ℕ} 0 1 = cc in omega arith) h1 in
      let (right, h3) = passed_by (not (eqb (book_refusal r) 0)) (λ e. let z : ◌≡◌ {A = ℕ} 0 1 = cc in omega arith) h2 in
      let (left_word, h4) = passed_by (hides_beyond hidden.left l) (λ e. let z : ◌≡◌ {A = ℕ} 0 1 = cc in omega arith) h3 in
      let (right_word, h5) = passed_by (hides_beyond hidden.right r) (λ e. let z : ◌≡◌ {A = ℕ} 0 1 = cc in omega arith) h4 in
      let (map, h6) = passed_by (not (eqb places (pairs_of l r))) (λ e. let z : ◌≡◌ {A = ℕ} 0 1 = cc in omega arith) h5 in
      let (roomy, h7) = passed_by (ltb room (room_needed (sheet_version l r) (pairs_of l r))) (λ e. let z : ◌≡◌ {A = ℕ} 0 1 = cc in omega arith) h6 in
      let (spare, h8) = passed_by (ltb scratch (scratch_needed (pairs_of l r))) (λ e. let z : ◌≡◌ {A = ℕ} 0 1 = cc in omega arith) h7 in (
        record {
          bound = ltb-false _ _ bound;
          left = eqb-true _ _ (not-false _ left);
          right = eqb-true _ _ (not-false _ right);
          left_word = left_word;
          right_word = right_word;
          map = eqb-true _ _ (not-false _ map);
          roomy = ltb-false _ _ roomy;
          spare = ltb-false _ _ spare;
        },
        sym (ap sheet_told h8),
        sym (ap count_told h8),
      )

-- the room that at most so many pairs need, in any version
pub room_most : (v n most : ℕ) → n ≤ most → room_needed v n ≤ 10 + 52 * most
room_most v n most h = let f : pair_bytes v ≤ 52 = omega (arith, (label-width v).most) in omega (arith, mul-le-mul f h)

-- two accepted books have at most 4,096 pairs
pub pairs_most : (l r : List ℕ) → book_refusal l ≡ 0 → book_refusal r ≡ 0 → pairs_of l r ≤ 4096
pairs_most l r f g = mul-le-mul (book_sizes l f).few (book_sizes r g).few
