-- The stages of the check in the form in which the code goes through them: numbers one after another, and a body by its kind.
use mathlib.Core.Bool.{Bool, true, false, cond, not, ◌||◌}
use mathlib.Core.List.{List, [], ◌∷◌, ◌++◌}
use mathlib.Core.Logic.{◌⊎◌, inl, inr, ⊎_elim}
use mathlib.Core.Path.{◌≡◌, refl, sym, ap, ◌∙◌}
use Prim.Native.Nat.{ℕ, zero, suc, ◌+◌, ◌*◌, ◌≤◌, ◌<◌}
use native.Mathlib.Nat.{eq-or-lt_of_le}
use native.Mathlib.Omega.{arith}
use borrow.Author.Tests.{le-ltb}
use lib.Dec.{eqb, ltb}
use lib.ListN.{get_or}
use Rattle.sheet.specs.Entry.{Step, entry_with, tests, numbers, most_steps}
use Rattle.outcome.specs.Refusals.{first_of}
use Rattle.sheet.specs.Sheet.{step_width, number_at, step_at, steps_at, step_counts, entry_of, too_large, required, numbers_refusal, body_refusal}

-- ---- the numbers in an entry

pub numbers-append : (n : ℕ) (is js : List ℕ) → numbers_refusal n (is ++ js) ≡ first_of (numbers_refusal n is) (numbers_refusal n js)
unfolding numbers_refusal
numbers-append n [] js = refl
numbers-append n (i ∷ is) js = go (ltb i n) (numbers-append n is js)
  where
    go : (b : Bool) → numbers_refusal n (is ++ js) ≡ first_of (numbers_refusal n is) (numbers_refusal n js)
        → cond b (numbers_refusal n (is ++ js)) 12 ≡ first_of (cond b (numbers_refusal n is) 12) (numbers_refusal n js)
    go true e = e
    go false e = refl

pub tests-append : (ss ts : List Step) → tests (ss ++ ts) ≡ tests ss ++ tests ts
unfolding tests
tests-append [] ts = refl
tests-append (s ∷ ss) ts = ap (λ is. s.test ∷ is) (tests-append ss ts)

-- steps that follow one another
pub steps-add : (v : ℕ) (s : List ℕ) (at k j : ℕ) → steps_at v s at (k + j) ≡ steps_at v s at k ++ steps_at v s (at + step_width v * k) j
unfolding steps_at
steps-add v s at zero j = rw (let e : zero + j ≡ j = omega arith in e, let e : at + step_width v * 0 ≡ at = omega arith in e)
steps-add v s at (suc k) j =
    rw (let e : suc k + j ≡ suc (k + j) = omega arith in e)
    (ap (λ ss. step_at v s at ∷ ss) (steps-add v s (at + step_width v) k j ∙ rw (let e : at + step_width v + step_width v * k ≡ at + step_width v * suc k = omega arith in e)))

-- ---- the check of a body, by its kind

one_of_two : (j k : ℕ) → j ≤ k → k ≤ suc j → (k ≡ j) ⊎ (k ≡ suc j)
one_of_two j k h l = ⊎_elim (λ e. inl (sym e)) (λ m. inr (omega arith)) (eq-or-lt_of_le h)

module _ (v : ℕ) (s : List ℕ) (c n kind at size : ℕ) where
  pub body_true : kind ≡ 0 → body_refusal v s c n kind at size ≡ cond (not (eqb size 0)) 14 0
  unfolding body_refusal step_counts too_large required entry_of entry_with numbers numbers_refusal
  body_true k = rw k (simp (le-ltb size 0 (omega arith)))

  pub body_not : kind ≡ 1 → body_refusal v s c n kind at size ≡ cond (not (eqb size 2)) 14 (numbers_refusal n (number_at s at ∷ []))
  unfolding body_refusal step_counts too_large required entry_of entry_with numbers
  body_not k = rw k (simp (le-ltb size 0 (omega arith)))

  pub body_two : 1 < kind → kind < 4
      → body_refusal v s c n kind at size ≡ cond (not (eqb size 4)) 14 (numbers_refusal n (number_at s at ∷ number_at s (at + 2) ∷ []))
  unfolding body_refusal step_counts too_large required entry_of entry_with numbers
  body_two h l =
      ⊎_elim (λ k. rw k (simp (le-ltb size 0 (omega arith)))) (λ k. rw k (simp (le-ltb size 0 (omega arith)))) (one_of_two 2 kind h (omega arith))

  pub body_way : kind ≡ 4
      → body_refusal v s c n kind at size
      ≡ cond (ltb size 1) 14 (cond (ltb (most_steps v) (get_or s at 0)) 11 (cond (not (eqb size (1 + step_width v * get_or s at 0))) 14
      (numbers_refusal n (tests (steps_at v s (at + 1) (get_or s at 0))))))
  unfolding body_refusal step_counts too_large required entry_of entry_with numbers
  body_way k = rw k refl

  -- the steps of both ways are read as one run
  both : tests (steps_at v s (at + 2) (get_or s at 0)) ++ tests (steps_at v s (at + 2 + step_width v * get_or s at 0) (get_or s (at + 1) 0))
      ≡ tests (steps_at v s (at + 2) (get_or s at 0 + get_or s (at + 1) 0))
  both = sym (ap tests (steps-add v s (at + 2) (get_or s at 0) (get_or s (at + 1) 0)) ∙ tests-append _ _)

  pub body_comparison : 4 < kind → kind ≤ 6
      → body_refusal v s c n kind at size
      ≡ cond (ltb size 2) 14 (cond (ltb c (get_or s at 0) || ltb c (get_or s (at + 1) 0)) 11 (cond (not (eqb size (2 + step_width v * (get_or s at 0 + get_or s (at + 1) 0)))) 14
      (numbers_refusal n (tests (steps_at v s (at + 2) (get_or s at 0 + get_or s (at + 1) 0))))))
  unfolding body_refusal step_counts too_large required entry_of entry_with numbers
  body_comparison h l = ⊎_elim (λ k. rw k (rw (← both) refl)) (λ k. rw k (rw (← both) refl)) (one_of_two 5 kind h l)

-- a body without steps asks nothing of the version and the bound
pub body_plain : (v v' : ℕ) (s : List ℕ) (c c' n kind at size : ℕ) → kind < 4 → body_refusal v s c n kind at size ≡ body_refusal v' s c' n kind at size
body_plain v v' s c c' n zero at size h = body_true v s c n 0 at size refl ∙ sym (body_true v' s c' n 0 at size refl)
body_plain v v' s c c' n (suc zero) at size h = body_not v s c n 1 at size refl ∙ sym (body_not v' s c' n 1 at size refl)
body_plain v v' s c c' n (suc (suc k)) at size h =
    body_two v s c n (suc (suc k)) at size (omega arith) h ∙ sym (body_two v' s c' n (suc (suc k)) at size (omega arith) h)
