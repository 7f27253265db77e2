-- What is read of an accepted sheet is the decoded entry, and lies within the sheet.
use Rattle.std.specs.Prelude.{List, [], ◌∷◌, ◌≡◌, ℕ, zero, suc, ◌+◌, ◌*◌, ◌≤◌, ◌<◌}
use Rattle.std.proofs.Math.Path.{refl}
use Rattle.std.proofs.Common.{sym, subst, ◌∙◌, not-suc-le-zero, le_of_suc-le-suc}
use native.Mathlib.Omega.{arith}
use Rattle.std.proofs.Math.ListN.{length, get_or}
use Rattle.sheet.specs.Entry.{Step, entry_with, kind_of, first_way_lem, second_way, step_in, tests, numbers, Below}
use Rattle.sheet.specs.ExpressionLaws.{numbers_of_kind}
use Rattle.sheet.specs.Sheet.{version_of, head_size, count_of, number_width, step_width, number_at, step_at, steps_at, step_counts, first_start, first_count, second_start, second_count, entry_of, entry_at, entry_start, required, entry_refusal, sheet_refusal, most_kind}
use Rattle.sheet.proofs.PassedLaws.{standing, accepted_head}
use Rattle.sheet.proofs.AcceptedLaws.{kind_cases, kind_of_entry, accepted_standing}
use Rattle.sheet.specs.declared.Steps.{Steps}
use Rattle.sheet.specs.Reading.{Readable, HasNumber, HasWay, first_place, second_place, Reads}

-- ---- where an entry can be read

pub readable : (s : List ℕ) (k at : ℕ) → sheet_refusal s ≡ 0 → k < count_of s → at ≡ entry_start s k → Readable s at
readable s k at g h e = rw e (record { long = (accepted_head s g).eight; bound = _; index = k; standing = accepted_standing s g k h })

pub readable_passed : (s : List ℕ) (c n at r : ℕ) → head_size ≤ length s → r ≡ entry_refusal (version_of s) s c n at → r ≡ 0 → Readable s at
readable_passed s c n at r h d z = record { long = h; bound = c; index = n; standing = standing (version_of s) s c n at (sym d ∙ z) }

module _ {s : List ℕ} {at : ℕ} (r : Readable s at) where
  pub kind_read : get_or s (at + 1) 0 ≡ kind_of (entry_at s at)
  kind_read = sym (kind_of_entry (version_of s) s (at + 2) (get_or s (at + 1) 0) r.standing.known)

-- ---- numbers

pub has_number : {s : List ℕ} {at : ℕ} → Readable s at → (i : ℕ) → i < kind_of (entry_at s at) → i < 2 → kind_of (entry_at s at) < 4 → HasNumber s at i
has_number {s} {at} r i h k l = record { entry = r; plain = l; present = numbers_of_kind (entry_at s at) i h k l }

number_in : (s : List ℕ) (at i : ℕ) → i < 2 → number_at s (at + 2 * i) ≡ get_or (number_at s at ∷ number_at s (at + 2) ∷ []) i 0
number_in s at zero h = rw (let e : at + 2 * 0 ≡ at = omega arith in e)
number_in s at (suc zero) h = refl
number_in s at (suc (suc i)) h = absurd (omega arith)

number_only : (s : List ℕ) (at i : ℕ) → i < 1 → number_at s (at + 2 * i) ≡ get_or (number_at s at ∷ []) i 0
number_only s at zero h = rw (let e : at + 2 * 0 ≡ at = omega arith in e)
number_only s at (suc i) h = absurd (omega arith)

module _ (v : ℕ) (s : List ℕ) (at i : ℕ) where
  numbers_plain : (k : ℕ) → k ≤ most_kind → k < 4 → i < length (numbers (entry_of v k s at))
      → (number_width * i + number_width ≤ required v k s at) × (number_at s (at + number_width * i) ≡ get_or (numbers (entry_of v k s at)) i 0)
  unfolding numbers entry_of entry_with required
  numbers_plain =
      kind_cases
      (λ k. k < 4 → i < length (numbers (entry_of v k s at))
      → (number_width * i + number_width ≤ required v k s at) × (number_at s (at + number_width * i) ≡ get_or (numbers (entry_of v k s at)) i 0))
      (λ h l. absurd (not-suc-le-zero l)) (λ h l. (omega arith, number_only s at i l)) (λ h l. (omega arith, number_in s at i l))
      (λ h l. (omega arith, number_in s at i l)) (λ h. absurd (omega arith)) (λ h. absurd (omega arith)) (λ h. absurd (omega arith))

module _ {s : List ℕ} {at i : ℕ} (h : HasNumber s at i) where
  plain : (number_width * i + number_width ≤ required (version_of s) (get_or s (at + 1) 0) s (at + 2)) × (number_at s (at + 2 + number_width * i) ≡ get_or (numbers (entry_at s at)) i 0)
  plain =
      numbers_plain (version_of s) s (at + 2) i (get_or s (at + 1) 0) h.entry.standing.known (rw (kind_read h.entry) h.plain) h.present

  pub number_read : number_at s (at + 2 + number_width * i) ≡ get_or (numbers (entry_at s at)) i 0
  number_read = plain.1

  pub number_inside : at + 2 + number_width * i + number_width ≤ length s
  number_inside =
      let p = plain.0 in
      let a = h.entry.standing.inside in
      let b = h.entry.standing.present in
      let e = h.entry.standing.body.exact in
      omega arith

-- ---- ways

module _ (v : ℕ) (s : List ℕ) (at : ℕ) where
  first_of_kind : (k : ℕ) → k ≤ most_kind → 4 ≤ k
      → (1 ≤ required v k s at) × (step_counts k + step_width v * first_count s at ≤ required v k s at)
      × (steps_at v s (first_start k at) (first_count s at) ≡ first_way_lem (entry_of v k s at))
  unfolding first_way_lem entry_of entry_with required step_counts
  first_of_kind =
      kind_cases
      (λ k. 4 ≤ k
      → (1 ≤ required v k s at) × (step_counts k + step_width v * first_count s at ≤ required v k s at)
      × (steps_at v s (first_start k at) (first_count s at) ≡ first_way_lem (entry_of v k s at)))
      (λ h. absurd (omega arith)) (λ h. absurd (omega arith)) (λ h. absurd (omega arith)) (λ h. absurd (omega arith))
      (λ h. (omega arith, omega arith, refl)) (λ h. (omega arith, omega arith, refl)) (λ h. (omega arith, omega arith, refl))

  second_of_kind : (k : ℕ) → k ≤ most_kind → 5 ≤ k
      → (2 ≤ required v k s at) × (step_counts k ≡ 2) × (2 + step_width v * first_count s at + step_width v * second_count s at ≤ required v k s at)
      × (steps_at v s (second_start v k s at) (second_count s at) ≡ second_way (entry_of v k s at))
  unfolding second_way entry_of entry_with required step_counts
  second_of_kind =
      kind_cases
      (λ k. 5 ≤ k
      → (2 ≤ required v k s at) × (step_counts k ≡ 2) × (2 + step_width v * first_count s at + step_width v * second_count s at ≤ required v k s at)
      × (steps_at v s (second_start v k s at) (second_count s at) ≡ second_way (entry_of v k s at)))
      (λ h. absurd (omega arith)) (λ h. absurd (omega arith)) (λ h. absurd (omega arith)) (λ h. absurd (omega arith)) (λ h. absurd (omega arith))
      (λ h. (omega arith, refl, omega arith, refl)) (λ h. (omega arith, refl, omega arith, refl))

module _ {s : List ℕ} {at : ℕ} where
  -- a body lies within the sheet
  body_inside : Readable s at → (size : ℕ) → size ≤ required (version_of s) (get_or s (at + 1) 0) s (at + 2) → at + 2 + size ≤ length s
  body_inside r size h =
      let a = r.standing.inside in
      let b = r.standing.present in
      let e = r.standing.body.exact in
      omega arith

  module _ (h : HasWay s at 4) where
    first : (1 ≤ required (version_of s) (get_or s (at + 1) 0) s (at + 2))
        × (step_counts (get_or s (at + 1) 0) + step_width (version_of s) * first_count s (at + 2) ≤ required (version_of s) (get_or s (at + 1) 0) s (at + 2))
        × (steps_at (version_of s) s (first_start (get_or s (at + 1) 0) (at + 2)) (first_count s (at + 2)) ≡ first_way_lem (entry_at s at))
    first = first_of_kind (version_of s) s (at + 2) (get_or s (at + 1) 0) h.entry.standing.known (rw (kind_read h.entry) h.kind)

    pub first_inside : at + 2 < length s
    first_inside = let b = body_inside h.entry 1 first.0 in omega arith

    pub first_reads : (r : Steps) → r.count < 256 → r ≡ first_place s at → Reads s (first_place s at) (first_way_lem (entry_at s at)) r
    first_reads r f e =
        rw e (record { place = refl; few = subst (λ p. p.count < 256) e f; steps = first.2; inside = let b = body_inside h.entry _ first.1 in omega arith })

  module _ (h : HasWay s at 5) where
    second : (2 ≤ required (version_of s) (get_or s (at + 1) 0) s (at + 2)) × (step_counts (get_or s (at + 1) 0) ≡ 2)
        × (2 + step_width (version_of s) * first_count s (at + 2) + step_width (version_of s) * second_count s (at + 2) ≤ required (version_of s) (get_or s (at + 1) 0) s (at + 2))
        × (steps_at (version_of s) s (second_start (version_of s) (get_or s (at + 1) 0) s (at + 2)) (second_count s (at + 2)) ≡ second_way (entry_at s at))
    second = second_of_kind (version_of s) s (at + 2) (get_or s (at + 1) 0) h.entry.standing.known (rw (kind_read h.entry) h.kind)

    pub second_inside : at + 3 < length s
    second_inside = let b = body_inside h.entry 2 second.0 in omega arith

    pub second_two : step_counts (get_or s (at + 1) 0) ≡ 2
    second_two = second.1

    pub second_reads : (r : Steps) → r.count < 256 → r ≡ second_place s at → Reads s (second_place s at) (second_way (entry_at s at)) r
    second_reads r f e =
        rw e (record { place = refl; few = subst (λ p. p.count < 256) e f; steps = second.3; inside = let b = body_inside h.entry _ second.2 in let t = second.1 in omega arith })

-- ---- steps

pub steps_in : (v : ℕ) (s : List ℕ) (from k i : ℕ) → i < k → step_in (steps_at v s from k) i ≡ step_at v s (from + step_width v * i)
unfolding steps_at
steps_in v s from zero i h = absurd (not-suc-le-zero h)
steps_in v s from (suc k) zero h = rw (let e : from + step_width v * 0 ≡ from = omega arith in e)
steps_in v s from (suc k) (suc i) h =
    rw (let e : from + step_width v * suc i ≡ from + step_width v + step_width v * i = omega arith in e) (steps_in v s (from + step_width v) k i (le_of_suc-le-suc h))

-- the test of a step is a number of the entry
pub test_below : (n : ℕ) (ss : List Step) (i : ℕ) → Below n (tests ss) → i < length ss → (step_in ss i).test < n
unfolding Below tests
test_below n [] i b h = absurd (not-suc-le-zero h)
test_below n (s ∷ ss) zero b h = b.0
test_below n (s ∷ ss) (suc i) b h = test_below n ss i b.1 (le_of_suc-le-suc h)
