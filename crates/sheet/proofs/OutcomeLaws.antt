-- What the check of a sheet answers has room in an outcome's bits.
use Rattle.std.specs.Prelude.{not, ◌&&◌, List, [], ◌∷◌, ◌≡◌, refl, ℕ, zero, suc, ◌+◌, ◌-◌, ◌≤◌, eqb, ltb, leb, length, get_or}
use Rattle.std.proofs.Common.{arith, eqb-true}
use Rattle.std.proofs.lemmas.Bool.{eqb-false}
use Rattle.outcome.specs.Outcome.{Fits, of_sheet}
use Rattle.outcome.specs.OutcomeLaws.{accepted_fits, refused_fits}
use Rattle.outcome.specs.Refused.{number, named, judged}
use Rattle.outcome.specs.RefusalLaws.{either, first_most, number-named}
use Rattle.sheet.specs.Entry.{numbers}
use Rattle.sheet.specs.Sheet.{length_of, version_of, bound_of, count_of, head_size, most_version, most_bound, most_entries, most_kind, step_counts, entry_of, next_at, head_refusal, too_large, required, numbers_refusal, body_refusal, kind_refusal, entry_refusal, entries_refusal, sheet_refusal, sheet_answer, sheet_outcome}
use Rattle.sheet.proofs.PassedLaws.{accepted_head}

-- The refusals of a sheet are 1 to 3 and 8 to 14.
abbrev Few : ℕ → Type 0
Few r = r ≤ 14

head-most : (s : List ℕ) → Few (head_refusal s)
unfolding head_refusal
head-most s =
    either Few (ltb (length s) head_size) (λ _. omega arith) (λ _.
    either Few (not (eqb (length_of s) (length s))) (λ _. omega arith) (λ _.
    either Few (eqb (version_of s) 0) (λ _. omega arith) (λ _.
    either Few (ltb most_version (version_of s)) (λ _. omega arith) (λ _.
    either Few (ltb most_bound (bound_of s)) (λ _. omega arith) (λ _.
    either Few (eqb (count_of s) 0) (λ _. omega arith) (λ _.
    either Few (ltb most_entries (count_of s)) (λ _. omega arith) (λ _. omega arith)))))))

numbers_most : (n : ℕ) (is : List ℕ) → Few (numbers_refusal n is)
unfolding numbers_refusal
numbers_most n [] = omega arith
numbers_most n (i ∷ is) = either Few (ltb i n) (λ _. numbers_most n is) (λ _. omega arith)

body_most : (v : ℕ) (s : List ℕ) (c n kind at size : ℕ) → Few (body_refusal v s c n kind at size)
unfolding body_refusal
body_most v s c n kind at size =
    either Few (ltb size (step_counts kind)) (λ _. omega arith) (λ _.
    either Few (too_large v c kind s at) (λ _. omega arith) (λ _.
    either Few (not (eqb size (required v kind s at))) (λ _. omega arith) (λ _. numbers_most n (numbers (entry_of v kind s at)))))

kind_most : (n kind : ℕ) → Few (kind_refusal n kind)
unfolding kind_refusal
kind_most n kind =
    either Few (ltb (most_kind) kind) (λ _. omega arith) (λ _. either Few (eqb n 0 && not (eqb kind 0)) (λ _. omega arith) (λ _. omega arith))

entry_most : (v : ℕ) (s : List ℕ) (c n at : ℕ) → Few (entry_refusal v s c n at)
unfolding entry_refusal
entry_most v s c n at =
    either Few (leb (length s) at) (λ _. omega arith) (λ _.
    either Few (eqb (get_or s at 0) 0) (λ _. omega arith) (λ _.
    either Few (leb (length s) (at + get_or s at 0)) (λ _. omega arith) (λ _.
    first_most 14 (kind_most n (get_or s (at + 1) 0)) (body_most v s c n (get_or s (at + 1) 0) (at + 2) (get_or s at 0 - 1)))))

entries-most : (v : ℕ) (s : List ℕ) (c n at left : ℕ) → Few (entries_refusal v s c n at left)
unfolding entries_refusal
entries-most v s c n at zero = either Few (ltb at (length s)) (λ _. omega arith) (λ _. omega arith)
entries-most v s c n at (suc left) = first_most 14 (entry_most v s c n at) (entries-most v s c (n + 1) (next_at s at) left)

pub sheet_refusal_most : (s : List ℕ) → sheet_refusal s ≤ 14
unfolding sheet_refusal
sheet_refusal_most s = first_most 14 (head-most s) (entries-most (version_of s) s (bound_of s) 0 head_size (count_of s))

-- so its name has the number
pub sheet_refusal-named : (s : List ℕ) → (sheet_refusal s ≡ 0 → ⊥) → number (named (sheet_refusal s)) ≡ sheet_refusal s
sheet_refusal-named s f = go (sheet_refusal s) f (sheet_refusal_most s)
  where
    go : (n : ℕ) → (n ≡ 0 → ⊥) → n ≤ 14 → number (named n) ≡ n
    go zero f h = absurd (f refl)
    go (suc k) f h = number-named k h

-- Check a sheet: q and c, or the refusal.
pub sheet_fits : (s : List ℕ) → Fits (sheet_outcome (sheet_answer s))
unfolding sheet_answer judged
sheet_fits s =
    either (λ a. Fits (sheet_outcome a)) (eqb (sheet_refusal s) 0)
    (λ e. let d = accepted_head s (eqb-true _ _ e) in accepted_fits (count_of s) (bound_of s) (omega (arith, d.most)) (omega (arith, d.bounded)))
    (λ e. refused_fits of_sheet (number (named (sheet_refusal s))) (omega arith) (rw (sheet_refusal-named s (eqb-false _ _ e)) (omega (arith, sheet_refusal_most s))))
