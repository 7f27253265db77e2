-- What an accepted sheet is: its entries are well-formed, so each of its questions keeps to its bound; where its entries start.
use Rattle.std.specs.Prelude.{Bool, true, false, cond, ◌||◌, List, [], ◌∷◌, ◌≡◌, eqb, ltb, length, get_or, Ok, Err}
use Rattle.std.proofs.lemmas.Bool.{false≢true, eqb-false}
use Rattle.std.proofs.Math.Path.{refl}
use Rattle.std.proofs.Common.{sym, ap, ◌∙◌, zero-add, not-suc-le-zero, le_of_suc-le-suc, ltb-true, ltb-false, eqb-true}
use Prim.Native.Nat.{ℕ, zero, suc, ◌+◌, ◌≤◌, ◌<◌}
use Rattle.std.proofs.Math.Nat.{add-zero}
use Rattle.std.proofs.Math.Numerals.{add-one}
use native.Mathlib.Omega.{arith}
use Rattle.theory.specs.Bound.{Within}
use Rattle.sheet.specs.Entry.{truth, entry_with, kind_of, numbers, Short, Below, WellFormedEntry, WellFormedFrom, WellFormed, spell, expressions}
use Rattle.sheet.specs.ExpressionLaws.{expression_within, expression_is}
use Rattle.sheet.specs.Sheet.{version_of, bound_of, count_of, head_size, most_kind, step_width, steps_at, entry_of, entry_in, entry_at, next_at, entries_at, start_from, entries_of, entry_start, question_of, too_large, numbers_refusal, entry_refusal, entries_refusal, sheet_refusal, heading, sheet_answer}
use Rattle.outcome.specs.RefusalLaws.{first-zero, number-some}
use Rattle.outcome.specs.Refused.{number, named, judged}
use Rattle.outcome.specs.declared.Refusal.{Refusal}
use Rattle.sheet.specs.Passed.{EntryPassed}
use Rattle.sheet.proofs.PassedLaws.{standing, accepted-entries}
use Rattle.sheet.proofs.OutcomeLaws.{sheet_refusal-named}
use Rattle.sheet.specs.declared.Heading.{Heading}

-- ---- an entry that stands is well-formed

below : (n : ℕ) (is : List ℕ) → numbers_refusal n is ≡ 0 → Below n is
unfolding numbers_refusal Below
below n [] h = tt
below n (i ∷ is) h = go (ltb i n) refl h (below n is)
  where
    go : (b : Bool) → ltb i n ≡ b → cond b (numbers_refusal n is) 12 ≡ 0 → (numbers_refusal n is ≡ 0 → Below n is) → (i < n) × Below n is
    go true e h f = (ltb-true i n e, f h)
    go false e h f = absurd (omega arith)

-- a law of every kind, from its cases
pub kind_cases : (P : ℕ → Type 0) → P 0 → P 1 → P 2 → P 3 → P 4 → P 5 → P 6 → (k : ℕ) → k ≤ most_kind → P k
kind_cases P p0 p1 p2 p3 p4 p5 p6 zero h = p0
kind_cases P p0 p1 p2 p3 p4 p5 p6 (suc zero) h = p1
kind_cases P p0 p1 p2 p3 p4 p5 p6 (suc (suc zero)) h = p2
kind_cases P p0 p1 p2 p3 p4 p5 p6 (suc (suc (suc zero))) h = p3
kind_cases P p0 p1 p2 p3 p4 p5 p6 (suc (suc (suc (suc zero)))) h = p4
kind_cases P p0 p1 p2 p3 p4 p5 p6 (suc (suc (suc (suc (suc zero))))) h = p5
kind_cases P p0 p1 p2 p3 p4 p5 p6 (suc (suc (suc (suc (suc (suc zero)))))) h = p6
kind_cases P p0 p1 p2 p3 p4 p5 p6 (suc (suc (suc (suc (suc (suc (suc k))))))) h = absurd (omega arith)

pub length-steps : (v : ℕ) (s : List ℕ) (at k : ℕ) → length (steps_at v s at k) ≡ k
unfolding steps_at
length-steps v s at zero = refl
length-steps v s at (suc k) = ap suc (length-steps v s (at + step_width v) k)

-- the kind byte is the kind of the entry
pub kind_of_entry : (v : ℕ) (s : List ℕ) (at k : ℕ) → k ≤ most_kind → kind_of (entry_of v k s at) ≡ k
unfolding kind_of entry_of entry_with
kind_of_entry v s at k h = kind_cases (λ k. kind_of (entry_of v k s at) ≡ k) refl refl refl refl refl refl refl k h

both_small : (v c : ℕ) (s : List ℕ) (at at' k j : ℕ) → (ltb c k || ltb c j) ≡ false → (length (steps_at v s at k) ≤ c) × (length (steps_at v s at' j) ≤ c)
both_small v c s at at' k j h = rw (length-steps v s at k, length-steps v s at' j) (go (ltb c k) refl h)
  where
    go : (b : Bool) → ltb c k ≡ b → (b || ltb c j) ≡ false → (k ≤ c) × (j ≤ c)
    go true e h = absurd (false≢true (sym h))
    go false e h = (ltb-false c k e, ltb-false c j h)

short : (v c : ℕ) (s : List ℕ) (at k : ℕ) → k ≤ most_kind → too_large v c k s at ≡ false → Short v c (entry_of v k s at)
unfolding too_large entry_of entry_with Short
short v c s at k h =
    kind_cases (λ k. too_large v c k s at ≡ false → Short v c (entry_of v k s at)) (λ h. tt) (λ h. tt) (λ h. tt) (λ h. tt)
    (λ h. rw length-steps (ltb-false _ _ h)) (both_small v c s _ _ _ _) (both_small v c s _ _ _ _) k h

pub well_formed_entry : {v : ℕ} {s : List ℕ} {c n at : ℕ} → EntryPassed v s c n at → WellFormedEntry v c n (entry_in v s at)
unfolding entry_of entry_with
well_formed_entry {v} {s} {c} {n} {at} e =
    record {
      first = λ z. rw (e.first z);
      short = short v c s (at + 2) (get_or s (at + 1) 0) e.known e.body.small;
      earlier = below n (numbers (entry_in v s at)) e.body.earlier;
    }

-- ---- the entries of a sheet

module _ (v : ℕ) (s : List ℕ) (c : ℕ) where
  -- the first entry stands, and the others are not refused
  first-and-rest : (n at q : ℕ) → entries_refusal v s c n at (suc q) ≡ 0 → EntryPassed v s c n at × (entries_refusal v s c (n + 1) (next_at s at) q ≡ 0)
  unfolding entries_refusal
  first-and-rest n at q h = let (a, b) = first-zero (entry_refusal v s c n at) h in (standing v s c n at a, b)

  entries_well_formed : (n at q : ℕ) → entries_refusal v s c n at q ≡ 0 → WellFormedFrom v c n (entries_at v s at q)
  unfolding WellFormedFrom entries_at
  entries_well_formed n at zero h = tt
  entries_well_formed n at (suc q) h =
      let (a, b) = first-and-rest n at q h in
      (well_formed_entry a, rw (← add-one n) (entries_well_formed (n + 1) (next_at s at) q b))

  entries_standing : (n at q k : ℕ) → entries_refusal v s c n at q ≡ 0 → k < q → EntryPassed v s c (n + k) (start_from s at k)
  unfolding start_from
  entries_standing n at zero k h l = absurd (not-suc-le-zero l)
  entries_standing n at (suc q) zero h l = rw add-zero (first-and-rest n at q h).0
  entries_standing n at (suc q) (suc k) h l =
      rw (let e : n + suc k ≡ n + 1 + k = omega arith in e)
      (entries_standing (n + 1) (next_at s at) q k (first-and-rest n at q h).1 (le_of_suc-le-suc l))

pub length-entries_at : (v : ℕ) (s : List ℕ) (at q : ℕ) → length (entries_at v s at q) ≡ q
unfolding entries_at
length-entries_at v s at zero = refl
length-entries_at v s at (suc q) = ap suc (length-entries_at v s (next_at s at) q)

entries_at-at : (v : ℕ) (s : List ℕ) (at q k : ℕ) → k < q → get_or (entries_at v s at q) k truth ≡ entry_in v s (start_from s at k)
unfolding entries_at start_from
entries_at-at v s at zero k h = absurd (not-suc-le-zero h)
entries_at-at v s at (suc q) zero h = refl
entries_at-at v s at (suc q) (suc k) h = entries_at-at v s (next_at s at) q k (le_of_suc-le-suc h)

start_next : (s : List ℕ) (at k : ℕ) → start_from s at (suc k) ≡ next_at s (start_from s at k)
unfolding start_from
start_next s at zero = refl
start_next s at (suc k) = start_next s (next_at s at) k

module _ (s : List ℕ) where
  pub length-entries_of : length (entries_of s) ≡ count_of s
  length-entries_of = length-entries_at (version_of s) s head_size (count_of s)

  -- entry k is read where it starts
  pub entries_of-at : (k : ℕ) → k < count_of s → get_or (entries_of s) k truth ≡ entry_at s (entry_start s k)
  entries_of-at = entries_at-at (version_of s) s head_size (count_of s)

  pub entry_start-zero : entry_start s 0 ≡ head_size
  unfolding start_from
  entry_start-zero = refl

  pub entry_start-next : (k : ℕ) → entry_start s (k + 1) ≡ next_at s (entry_start s k)
  entry_start-next k = rw (add-one k) (start_next s head_size k)

-- ---- an accepted sheet

module _ (s : List ℕ) (good : sheet_refusal s ≡ 0) where
  pub accepted_well_formed : WellFormed (version_of s) (bound_of s) (entries_of s)
  accepted_well_formed = record { each = entries_well_formed (version_of s) s (bound_of s) 0 head_size (count_of s) (accepted-entries s good) }

  -- each of its questions keeps to its bound
  pub accepted_within : (k : ℕ) → Within (bound_of s) (question_of s k)
  accepted_within = expression_within accepted_well_formed

  -- each of its entries passes the check where it starts
  pub accepted_standing : (k : ℕ) → k < count_of s → EntryPassed (version_of s) s (bound_of s) k (entry_start s k)
  accepted_standing k h = rw zero-add at (entries_standing (version_of s) s (bound_of s) 0 head_size (count_of s) k (accepted-entries s good) h)

  -- "an entry's question is the one it spells when every number in it is read as the question of the entry named"
  pub accepted_question : (k : ℕ) → k < count_of s → question_of s k ≡ spell (expressions (entries_of s)) (entry_at s (entry_start s k))
  accepted_question k h =
      expression_is accepted_well_formed k (rw (length-entries_of s) h) ∙ ap (spell (expressions (entries_of s))) (entries_of-at s k h)

-- ---- what the answer says

-- A sheet that is accepted, with q entries and the bound c.
pub record Accepting (s : List ℕ) (q c : ℕ) : Type 0 where
  pub good : sheet_refusal s ≡ 0
  pub entries : q ≡ count_of s
  pub bound : c ≡ bound_of s

pub answer_accepting : (s : List ℕ) (h : Heading) → Ok h ≡ sheet_answer s → Accepting s h.entries h.bound
unfolding sheet_answer judged
answer_accepting s h e = go (eqb (sheet_refusal s) 0) refl e
  where
    go : (b : Bool) → eqb (sheet_refusal s) 0 ≡ b → Ok h ≡ cond b (Ok (heading (count_of s) (bound_of s))) (Err (named (sheet_refusal s))) → Accepting s h.entries h.bound
    go true d e = let p : h ≡ heading (count_of s) (bound_of s) = cc in record { good = eqb-true _ _ d; entries = ap (λ h. h.entries) p; bound = ap (λ h. h.bound) p }
    go false d e = cc

-- A sheet that is refused, with the number of its first refusal.
pub record Refusing (s : List ℕ) (r : ℕ) : Type 0 where
  pub some : r ≡ 0 → ⊥
  pub first : r ≡ sheet_refusal s

pub answer_refusing : (s : List ℕ) (r : Refusal) → Err r ≡ sheet_answer s → Refusing s (number r)
unfolding sheet_answer judged
answer_refusing s r e = go (eqb (sheet_refusal s) 0) refl e
  where
    go : (b : Bool) → eqb (sheet_refusal s) 0 ≡ b → Err r ≡ cond b (Ok (heading (count_of s) (bound_of s))) (Err (named (sheet_refusal s))) → Refusing s (number r)
    go true d e = cc
    go false d e =
        let p : r ≡ named (sheet_refusal s) = cc in
        record { some = number-some r; first = ap number p ∙ sheet_refusal-named s (eqb-false _ _ d) }
