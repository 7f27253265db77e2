-- What each way out of the check shows of the definitions of `specs/`. The numbers that the code computed are variables here, with what is
-- known of them, so that `search` finds them in a need's record.
use mathlib.Core.Bool.{Bool, cond, true, false, not}
use mathlib.Core.List.{List, [], ◌∷◌}
use mathlib.Core.Path.{◌≡◌, refl, sym, ap, ap₂, ◌∙◌}
use denote.Enum.Bare.{sameb}
use Prim.Native.Nat.{ℕ, suc, ◌+◌, ◌-◌, ◌*◌, ◌≤◌, ◌<◌}
use native.Mathlib.Nat.{pos_of_ne-zero, mul-add, mul-le-mul, mul-le-mul_left, mul-le-mul_right}
use native.Mathlib.Omega.{arith}
use borrow.Author.Tests.{lt-ltb, le-ltb, le-leb, lt-leb, eq-eqb, ne_eqb}
use lib.Dec.{eqb, ltb, leb}
use lib.ListN.{length, get_or}
use Rattle.sheet.specs.Entry.{kind_number, kind_of, first_way_lem, second_way, step_in, tests, numbers, most_steps}
use Rattle.outcome.specs.Refusals.{first_of}
use Rattle.sheet.specs.Sheet.{length_of, bound_of, count_of, number_at, step_at, steps_at, entry_at, next_at, entry_start, head_refusal, step_counts, numbers_refusal, body_refusal, kind_refusal, count_refusal, entry_refusal, entries_refusal, sheet_refusal, heading, sheet_answer, step_width, version_of, head_size, most_version, most_bound, most_entries, most_kind}
use Rattle.fields.specs.Fields.{field}
use Rattle.fields.specs.Label.{label_width}
use Rattle.sheet.proofs.AcceptedLaws.{entry_start-next}
use Rattle.sheet.specs.Reading.{Readable, HasNumber, HasWay, HasStep, Reads, steps_of, first_place, second_place}
use Rattle.sheet.proofs.ReadingLaws.{readable, kind_read, number_read, first_reads, second_two, second_reads, steps_in}
use Rattle.sheet.proofs.PassedLaws.{standing, headed, accepted_head}
use Rattle.sheet.proofs.Bodies.{numbers-append, tests-append, steps-add, body_true, body_not, body_two, body_way, body_comparison, body_plain}
use Rattle.sheet.specs.declared.Steps.{Steps}
use Rattle.std.specs.Prelude.{Result, Ok, Err, IsErrAnd}
use Rattle.outcome.specs.Refused.{number, refusal_in}
use Rattle.outcome.specs.RefusalLaws.{first_none, first_some, judged-ok, judged-err}
use Rattle.outcome.specs.declared.Refusal.{Refusal}
use Rattle.sheet.specs.declared.kinds.Kind.{Kind}
use Rattle.sheet.specs.declared.kinds.Kind.TheVariants as says
use Rattle.sheet.specs.contracts.kinds.Kind.{the_type}
use Rattle.sheet.specs.Kind.{Decodes}
use Rattle.sheet.proofs.KindLaws.{kind_number-most, kind_unlike, kind_other, kind_none, kind_two, kind_way, kind_past}

-- ---- a refusal that is passed on
pub passed_err : {A : Type 0} (r : Result A Refusal) (e : Refusal) → IsErrAnd r (λ x. x ≡ e) → r ≡ Err e
passed_err (Ok a) e h = absurd h
passed_err (Err x) e h = ap Err h

pub passed_on : {A : Type 0} (r : Result A Refusal) (e : Refusal) (n : ℕ) → IsErrAnd r (λ x. x ≡ e) → number e ≡ n → refusal_in r ≡ n
passed_on r e n h d = ap refusal_in (passed_err r e h) ∙ d

-- ---- the header
pub head_1 : (s : List ℕ) → length s < head_size → 1 ≡ head_refusal s
unfolding head_refusal
head_1 s h = simp (lt-ltb (length s) head_size h)

pub head_2 : (s : List ℕ) (l : ℕ) → l ≡ length_of s → head_size ≤ length s → (l ≡ length s → ⊥) → 2 ≡ head_refusal s
unfolding head_refusal
head_2 s l d a b = simp (le-ltb (length s) head_size a, ne_eqb (length_of s) (length s) (λ p. b (d ∙ p)))

module _ (s : List ℕ) (l : ℕ) (d : l ≡ length_of s) (a : head_size ≤ length s) (b : l ≡ length s) where
  whole : length_of s ≡ length s
  whole = sym d ∙ b

  pub head_zero : version_of s ≡ 0 → 3 ≡ head_refusal s
  unfolding head_refusal
  head_zero z = simp (le-ltb (length s) head_size a, eq-eqb (length_of s) (length s) whole, eq-eqb (version_of s) 0 z)

  module _ (f : version_of s ≡ 0 → ⊥) where
    pub head_later : most_version < version_of s → 3 ≡ head_refusal s
    unfolding head_refusal
    head_later h =
        simp (le-ltb (length s) head_size a, eq-eqb (length_of s) (length s) whole, ne_eqb (version_of s) 0 f, lt-ltb most_version (version_of s) h)

  module _ (f : version_of s ≡ 0 → ⊥) (v : version_of s ≤ most_version) where
    pub head_bound : most_bound < bound_of s → 8 ≡ head_refusal s
    unfolding head_refusal
    head_bound h = simp (le-ltb (length s) head_size a, eq-eqb (length_of s) (length s) whole, ne_eqb (version_of s) 0 f, le-ltb most_version (version_of s) v, lt-ltb most_bound (bound_of s) h)

    module _ (h : bound_of s ≤ most_bound) (q : ℕ) (dq : q ≡ count_of s) where
      pub head_none : q ≡ 0 → 8 ≡ head_refusal s
      unfolding head_refusal
      head_none z =
          simp (le-ltb (length s) head_size a, eq-eqb (length_of s) (length s) whole, ne_eqb (version_of s) 0 f, le-ltb most_version (version_of s) v, le-ltb most_bound (bound_of s) h, ← dq, eq-eqb q 0 z)

      module _ (z : q ≡ 0 → ⊥) where
        pub head_many : most_entries < q → 8 ≡ head_refusal s
        unfolding head_refusal
        head_many m =
            simp (le-ltb (length s) head_size a, eq-eqb (length_of s) (length s) whole, ne_eqb (version_of s) 0 f, le-ltb most_version (version_of s) v, le-ltb most_bound (bound_of s) h, ← dq, ne_eqb q 0 z, lt-ltb most_entries q m)

        pub head_0 : q ≤ most_entries → 0 ≡ head_refusal s
        unfolding head_refusal
        head_0 m =
            simp (le-ltb (length s) head_size a, eq-eqb (length_of s) (length s) whole, ne_eqb (version_of s) 0 f, le-ltb most_version (version_of s) v, le-ltb most_bound (bound_of s) h, ← dq, ne_eqb q 0 z, le-ltb most_entries q m)

-- ---- the bytes of steps
pub product_fits : (label count : ℕ) → label ≤ 2 → count ≤ 512 → (label + 2) * count ≤ 2048
product_fits label count l h = let f : label + 2 ≤ 4 = omega arith in omega (arith, mul-le-mul f h)

module _ (v count label : ℕ) (d : label ≡ label_width v) where
  pub product_is : (label + 2) * count ≡ step_width v * count
  product_is = rw d refl

  pub product_most : label ≤ 2 → (label + 2) * count ≤ 4 * count
  product_most m = let f : label + 2 ≤ 4 = omega arith in mul-le-mul_right count f

-- ---- the kind
module _ (n byte : ℕ) where
  pub kind_above : most_kind < byte → 10 ≡ kind_refusal n byte
  unfolding kind_refusal
  kind_above h = simp (lt-ltb (most_kind) byte h)

  module _ (kind : Kind) (d : kind_number kind ≡ byte) where
    known : byte ≤ most_kind
    known = rw (← d) (kind_number-most kind)

    pub kind_later : (n ≡ 0 → ⊥) → 0 ≡ kind_refusal n byte
    unfolding kind_refusal
    kind_later f = simp (le-ltb (most_kind) byte known, ne_eqb n 0 f)

    pub kind_first : n ≡ 0 → true ≡ not (sameb the_type kind says.True) → 13 ≡ kind_refusal n byte
    unfolding kind_refusal
    kind_first z f = simp (le-ltb (most_kind) byte known, eq-eqb n 0 z, ne_eqb byte 0 (λ e. kind_other kind f (d ∙ e)))

    pub kind_true : n ≡ 0 → false ≡ not (sameb the_type kind says.True) → 0 ≡ kind_refusal n byte
    unfolding kind_refusal
    kind_true z f = simp (le-ltb (most_kind) byte known, eq-eqb n 0 z, eq-eqb byte 0 (sym d ∙ kind_none kind f))

-- ---- numbers
module _ (s : List ℕ) (n at i : ℕ) (d : i ≡ number_at s at) where
  pub number_earlier : i < n → 0 ≡ numbers_refusal n (number_at s at ∷ [])
  unfolding numbers_refusal
  number_earlier h = simp (← d, lt-ltb i n h)

  pub number_later : n ≤ i → 12 ≡ numbers_refusal n (number_at s at ∷ [])
  unfolding numbers_refusal
  number_later h = simp (← d, le-ltb i n h)

-- ---- the tests of steps: of the first k, and then of the others
pub one_test : (v : ℕ) (s : List ℕ) (n at label r : ℕ) → label ≡ label_width v → r ≡ numbers_refusal n (number_at s (at + label) ∷ []) → r ≡ numbers_refusal n (tests (steps_at v s at 1))
unfolding tests steps_at
one_test v s n at label r d e = e ∙ rw d refl

module _ (v : ℕ) (s : List ℕ) (n at k r : ℕ) (d : r ≡ numbers_refusal n (tests (steps_at v s at k))) where
  both_parts : (m : ℕ) → numbers_refusal n (tests (steps_at v s at (k + m))) ≡ first_of r (numbers_refusal n (tests (steps_at v s (at + step_width v * k) m)))
  both_parts m =
      ap (λ ss. numbers_refusal n (tests ss)) (steps-add v s at k m) ∙ ap (numbers_refusal n) (tests-append (steps_at v s at k) _)
      ∙ numbers-append n (tests (steps_at v s at k)) _ ∙ rw d refl

  module _ (whole left : ℕ) (i : whole ≡ numbers_refusal n (tests (steps_at v s at left))) (h : k ≤ left) where
    by_parts : whole ≡ first_of r (numbers_refusal n (tests (steps_at v s (at + step_width v * k) (left - k))))
    by_parts = i ∙ ap (λ m. numbers_refusal n (tests (steps_at v s at m))) (let e : left ≡ k + (left - k) = omega arith in e) ∙ both_parts (left - k)

    pub tests_stop : (r ≡ 0 → ⊥) → r ≡ whole
    tests_stop f = sym (by_parts ∙ simp (ne_eqb r 0 f))

    pub tests-next : r ≡ 0 → (b : ℕ) → b ≡ step_width v * k → whole ≡ numbers_refusal n (tests (steps_at v s (at + b) (left - k)))
    tests-next z b e = rw e (by_parts ∙ simp (eq-eqb r 0 z))

module _ (v : ℕ) (s : List ℕ) (n at r : ℕ) (d : r ≡ numbers_refusal n (tests (steps_at v s at 1))) where
  pub two-tests-first : (r ≡ 0 → ⊥) → r ≡ numbers_refusal n (tests (steps_at v s at 2))
  two-tests-first f = tests_stop v s n at 1 r d _ 2 refl (omega arith) f

  pub two-tests_second : r ≡ 0 → (b : ℕ) → b ≡ step_width v * 1 → (t : ℕ) → t ≡ numbers_refusal n (tests (steps_at v s (at + b) 1)) → t ≡ numbers_refusal n (tests (steps_at v s at 2))
  two-tests_second z b e t f = f ∙ sym (tests-next v s n at 1 r d _ 2 refl (omega arith) z b e)

-- what is left of the bytes
module _ (v at k left m : ℕ) (h : k ≤ left) (e : at + step_width v * left ≡ m) where
  first_bytes : step_width v * left ≡ step_width v * k + step_width v * (left - k)
  first_bytes = ap (λ i. step_width v * i) (let q : left ≡ k + (left - k) = omega arith in q) ∙ mul-add (step_width v) k (left - k)

  pub tests_room : (n : ℕ) → m ≤ n → at + step_width v * k ≤ n
  tests_room n l = omega (arith, first_bytes)

  pub tests_on : (b : ℕ) → b ≡ step_width v * k → at + b + step_width v * (left - k) ≡ m
  tests_on b d = omega (arith, first_bytes)

module _ (v : ℕ) (s : List ℕ) (n at left whole : ℕ) (i : whole ≡ numbers_refusal n (tests (steps_at v s at left))) where
  pub tests-end : left ≡ 0 → 0 ≡ whole
  unfolding numbers_refusal tests steps_at
  tests-end z = sym (i ∙ rw z refl)

  pub tests_last : left < 2 → (left ≡ 0 → ⊥) → (r : ℕ) → r ≡ numbers_refusal n (tests (steps_at v s at 1)) → r ≡ whole
  tests_last h f r d = d ∙ sym (i ∙ ap (λ m. numbers_refusal n (tests (steps_at v s at m))) (let e : left ≡ 1 = omega (arith, pos_of_ne-zero f) in e))

-- ---- the body of a true, not, and or or
module _ (s : List ℕ) (n at size : ℕ) where
  pub true_size : (size ≡ 0 → ⊥) → 14 ≡ body_refusal 0 s 0 n 0 at size
  true_size f = simp (body_true 0 s 0 n 0 at size refl, ne_eqb size 0 f)

  pub true_good : size ≡ 0 → 0 ≡ body_refusal 0 s 0 n 0 at size
  true_good e = simp (body_true 0 s 0 n 0 at size refl, eq-eqb size 0 e)

  pub not_size : (size ≡ 2 → ⊥) → 14 ≡ body_refusal 0 s 0 n 1 at size
  not_size f = simp (body_not 0 s 0 n 1 at size refl, ne_eqb size 2 f)

  pub not_number : size ≡ 2 → (r : ℕ) → r ≡ numbers_refusal n (number_at s at ∷ []) → r ≡ body_refusal 0 s 0 n 1 at size
  not_number e r d = simp (body_not 0 s 0 n 1 at size refl, eq-eqb size 2 e) d

  pub both_size : (size ≡ 4 → ⊥) → 14 ≡ body_refusal 0 s 0 n 2 at size
  both_size f = simp (body_two 0 s 0 n 2 at size (omega arith) (omega arith), ne_eqb size 4 f)

  module _ (e : size ≡ 4) (r : ℕ) (d : r ≡ numbers_refusal n (number_at s at ∷ [])) where
    two : first_of r (numbers_refusal n (number_at s (at + 2) ∷ [])) ≡ body_refusal 0 s 0 n 2 at size
    two = rw d (simp (body_two 0 s 0 n 2 at size (omega arith) (omega arith), eq-eqb size 4 e) (sym (numbers-append n (number_at s at ∷ []) (number_at s (at + 2) ∷ []))))

    pub both-first : (r ≡ 0 → ⊥) → r ≡ body_refusal 0 s 0 n 2 at size
    both-first f = simp (ne_eqb r 0 f) at two

    pub both_second : r ≡ 0 → (t : ℕ) → t ≡ numbers_refusal n (number_at s (at + 2) ∷ []) → t ≡ body_refusal 0 s 0 n 2 at size
    both_second f t dt = dt ∙ (simp (eq-eqb r 0 f) at two)

-- ---- the body of a way
module _ (v : ℕ) (s : List ℕ) (n at size : ℕ) where
  pub way_short : size < 1 → 14 ≡ body_refusal v s 0 n 4 at size
  way_short h = simp (body_way v s 0 n 4 at size refl, lt-ltb size 1 h)

  module _ (h : 1 ≤ size) (k : ℕ) (d : k ≡ get_or s at 0) where
    pub way_large : most_steps v < k → 11 ≡ body_refusal v s 0 n 4 at size
    way_large l = simp (body_way v s 0 n 4 at size refl, le-ltb size 1 h, ← d, lt-ltb (most_steps v) k l)

    module _ (l : k ≤ most_steps v) (m : ℕ) (dm : m ≡ step_width v * k) where
      pub way_size : (size ≡ 1 + m → ⊥) → 14 ≡ body_refusal v s 0 n 4 at size
      way_size f = simp (body_way v s 0 n 4 at size refl, le-ltb size 1 h, ← d, le-ltb (most_steps v) k l, ← dm, ne_eqb size (1 + m) f)

      pub way-tests : size ≡ 1 + m → (r : ℕ) → r ≡ numbers_refusal n (tests (steps_at v s (at + 1) k)) → r ≡ body_refusal v s 0 n 4 at size
      way-tests e r dr = simp (body_way v s 0 n 4 at size refl, le-ltb size 1 h, ← d, le-ltb (most_steps v) k l, ← dm, eq-eqb size (1 + m) e) dr

-- ---- the body of a same or a differ
module _ (v : ℕ) (s : List ℕ) (c n at size : ℕ) where
  pub comparison_short : size < 2 → 14 ≡ body_refusal v s c n 5 at size
  comparison_short h = simp (body_comparison v s c n 5 at size (omega arith) (omega arith), lt-ltb size 2 h)

  module _ (h : 2 ≤ size) where
    pub comparison-first : c < get_or s at 0 → 11 ≡ body_refusal v s c n 5 at size
    comparison-first l = simp (body_comparison v s c n 5 at size (omega arith) (omega arith), le-ltb size 2 h, lt-ltb c (get_or s at 0) l)

    module _ (l : get_or s at 0 ≤ c) where
      pub comparison_second : c < get_or s (at + 1) 0 → 11 ≡ body_refusal v s c n 5 at size
      comparison_second m =
          simp (body_comparison v s c n 5 at size (omega arith) (omega arith), le-ltb size 2 h, le-ltb c (get_or s at 0) l, lt-ltb c (get_or s (at + 1) 0) m)

      module _ (m : get_or s (at + 1) 0 ≤ c) (k j : ℕ) (dk : k ≡ get_or s at 0) (dj : j ≡ get_or s (at + 1) 0) (t : ℕ) (dt : t ≡ step_width v * (k + j)) where
        pub comparison_size : (size ≡ 2 + t → ⊥) → 14 ≡ body_refusal v s c n 5 at size
        comparison_size f =
            simp (body_comparison v s c n 5 at size (omega arith) (omega arith), le-ltb size 2 h, ← dk, ← dj, le-ltb c k (omega arith), le-ltb c j (omega arith), ← dt, ne_eqb size (2 + t) f)

        pub comparison-tests : size ≡ 2 + t → (r : ℕ) → r ≡ numbers_refusal n (tests (steps_at v s (at + 2) (k + j))) → r ≡ body_refusal v s c n 5 at size
        comparison-tests e r dr =
            simp (body_comparison v s c n 5 at size (omega arith) (omega arith), le-ltb size 2 h, ← dk, ← dj, le-ltb c k (omega arith), le-ltb c j (omega arith), ← dt, eq-eqb size (2 + t) e) dr

-- ---- the body, by its kind
pub body_by_both : (s : List ℕ) (n : ℕ) (kind : Kind) (at size r : ℕ) → (kind ≡ says.True → ⊥) → (kind ≡ says.Not → ⊥) → kind_number kind < 4
    → r ≡ body_refusal 0 s 0 n 2 at size → r ≡ body_refusal 0 s 0 n (kind_number kind) at size
body_by_both s n kind at size r f g h d =
    d ∙ body_two 0 s 0 n 2 at size (omega arith) (omega arith) ∙ sym (body_two 0 s 0 n (kind_number kind) at size (kind_two kind f g) h)

module _ (v : ℕ) (s : List ℕ) (c n : ℕ) (kind : Kind) (at size r : ℕ) where
  pub body_by_plain : (m w : ℕ) → m ≡ kind_number kind → w ≡ 4 → m < w → r ≡ body_refusal 0 s 0 n (kind_number kind) at size
      → r ≡ body_refusal v s c n (kind_number kind) at size
  body_by_plain m w e f h d = d ∙ body_plain 0 v s 0 c n (kind_number kind) at size (omega arith)

  pub body_by_way : true ≡ sameb the_type kind says.Way → r ≡ body_refusal v s 0 n 4 at size → r ≡ body_refusal v s c n (kind_number kind) at size
  body_by_way f d = rw (kind_way kind f) (d ∙ body_way v s 0 n 4 at size refl ∙ sym (body_way v s c n 4 at size refl))

  pub body_by_comparison : (m w : ℕ) → m ≡ kind_number kind → w ≡ 4 → w ≤ m → false ≡ sameb the_type kind says.Way → r ≡ body_refusal v s c n 5 at size
      → r ≡ body_refusal v s c n (kind_number kind) at size
  body_by_comparison m w e f h g d =
      d ∙ body_comparison v s c n 5 at size (omega arith) (omega arith)
      ∙ sym (body_comparison v s c n (kind_number kind) at size (kind_past kind (omega arith) g) (kind_number-most kind))

-- ---- an entry
pub count_absent : (s : List ℕ) (at : ℕ) → length s ≤ at → 9 ≡ count_refusal s at
unfolding count_refusal
count_absent s at h = simp (le-leb (length s) at h)

module _ (s : List ℕ) (at : ℕ) (h : at < length s) (count : ℕ) (d : count ≡ get_or s at 0) where
  pub count_empty : count ≡ 0 → 9 ≡ count_refusal s at
  unfolding count_refusal
  count_empty z = simp (lt-leb (length s) at h, ← d, eq-eqb count 0 z)

  module _ (z : count ≡ 0 → ⊥) where
    pub count_past : length s - at ≤ count → 9 ≡ count_refusal s at
    unfolding count_refusal
    count_past l = simp (lt-leb (length s) at h, ← d, ne_eqb count 0 z, le-leb (length s) (at + count) (omega arith))

    pub count_good : count < length s - at → 0 ≡ count_refusal s at
    unfolding count_refusal
    count_good l = simp (lt-leb (length s) at h, ← d, ne_eqb count 0 z, lt-leb (length s) (at + count) (omega arith))

module _ (v : ℕ) (s : List ℕ) (c n at : ℕ) where
  -- the count byte first, then the kind and the body
  counted : entry_refusal v s c n at ≡ first_of (count_refusal s at) (first_of (kind_refusal n (get_or s (at + 1) 0)) (body_refusal v s c n (get_or s (at + 1) 0) (at + 2) (get_or s at 0 - 1)))
  unfolding entry_refusal count_refusal
  counted = go (leb (length s) at) (eqb (get_or s at 0) 0) (leb (length s) (at + get_or s at 0)) (first_of (kind_refusal n (get_or s (at + 1) 0)) (body_refusal v s c n (get_or s (at + 1) 0) (at + 2) (get_or s at 0 - 1)))
    where
      go : (a b e : Bool) (r : ℕ) → cond a 9 (cond b 9 (cond e 9 r)) ≡ first_of (cond a 9 (cond b 9 (cond e 9 0))) r
      go true b e r = refl
      go false true e r = refl
      go false false true r = refl
      go false false false r = refl

  pub entry_uncounted : (r : ℕ) → r ≡ count_refusal s at → (r ≡ 0 → ⊥) → r ≡ entry_refusal v s c n at
  entry_uncounted r d f = sym (counted ∙ rw (← d) (first_some r _ f))

  module _ (e : 0 ≡ count_refusal s at) (r : ℕ) (dr : r ≡ kind_refusal n (get_or s (at + 1) 0)) where
    pub entry_kind : (r ≡ 0 → ⊥) → r ≡ entry_refusal v s c n at
    entry_kind f = sym (counted ∙ rw (← e, ← dr) (first_some r _ f))

    pub entry_body : r ≡ 0 → (kind count : ℕ) → kind ≡ get_or s (at + 1) 0 → count ≡ get_or s at 0 → (t : ℕ) → t ≡ body_refusal v s c n kind (at + 2) (count - 1) → t ≡ entry_refusal v s c n at
    entry_body z kind count k d t dt = dt ∙ sym (counted ∙ rw (← e, ← dr, ← k, ← d) (first_none r _ z))

-- ---- the entries, one turn at a time
pub entries_start : (v : ℕ) (s : List ℕ) (c q : ℕ) → entries_refusal v s c 0 head_size q ≡ entries_refusal v s c 0 8 (q - 0)
entries_start v s c q = let e : q - 0 ≡ q = omega arith in rw e refl

entries-end : (v : ℕ) (s : List ℕ) (c q at n : ℕ) → entries_refusal v s c 0 head_size q ≡ entries_refusal v s c n at (q - n) → q ≤ n → (r : ℕ)
    → r ≡ cond (ltb at (length s)) 9 0 → r ≡ entries_refusal v s c 0 head_size q
unfolding entries_refusal
entries-end v s c q at n i h r d = d ∙ sym (i ∙ go (q - n) (omega arith))
  where
    go : (m : ℕ) → m ≡ 0 → entries_refusal v s c n at m ≡ cond (ltb at (length s)) 9 0
    go m e = rw e refl

module _ (v : ℕ) (s : List ℕ) (c q at n : ℕ) (i : entries_refusal v s c 0 head_size q ≡ entries_refusal v s c n at (q - n)) where
  module _ (h : q ≤ n) where
    pub entries_over : at < length s → 9 ≡ entries_refusal v s c 0 head_size q
    entries_over l = entries-end v s c q at n i h 9 (simp (lt-ltb at (length s) l))

    pub entries_good : length s ≤ at → 0 ≡ entries_refusal v s c 0 head_size q
    entries_good l = entries-end v s c q at n i h 0 (simp (le-ltb at (length s) l))

  module _ (p : n < q) (r : ℕ) (dr : r ≡ entry_refusal v s c n at) where
    step : entries_refusal v s c 0 head_size q ≡ first_of r (entries_refusal v s c (n + 1) (next_at s at) (q - (n + 1)))
    unfolding entries_refusal
    step = i ∙ go (q - n) (q - (n + 1)) (omega arith)
      where
        go : (m m' : ℕ) → m ≡ suc m' → entries_refusal v s c n at m ≡ first_of r (entries_refusal v s c (n + 1) (next_at s at) m')
        go m m' e = rw (e, dr) refl

    pub entries_stop : (r ≡ 0 → ⊥) → r ≡ entries_refusal v s c 0 head_size q
    entries_stop f = sym (step ∙ simp (ne_eqb r 0 f))

    module _ (z : r ≡ 0) (b : ℕ) (d : b ≡ next_at s at) where
      pub entries_next : entries_refusal v s c 0 head_size q ≡ entries_refusal v s c (n + 1) b (q - (n + 1))
      entries_next = rw d (step ∙ simp (eq-eqb r 0 z))

      pub entries_inside : b ≤ length s
      entries_inside = let h = (standing v s c n at (sym dr ∙ z)).inside in omega arith

-- ---- what the callers ask of a stage that is passed, in the form in which they ask it
pub head_long : (s : List ℕ) (h k : ℕ) → h ≡ head_refusal s → h ≡ 0 → k ≤ head_size → k ≤ length s
head_long s h k d z l = let w = (headed s (sym d ∙ z)).eight in omega arith

pub head_some : (s : List ℕ) (h q : ℕ) → h ≡ head_refusal s → h ≡ 0 → q ≡ count_of s → 0 < q
head_some s h q d z e = let w = (headed s (sym d ∙ z)).some in omega arith

pub sheet_long : (s : List ℕ) (k : ℕ) → sheet_refusal s ≡ 0 → k ≤ head_size → k ≤ length s
sheet_long s k z l = let w = (accepted_head s z).eight in omega arith

-- ---- the sheet
pub refusal_head : (s : List ℕ) (h : ℕ) → h ≡ head_refusal s → (h ≡ 0 → ⊥) → h ≡ sheet_refusal s
unfolding sheet_refusal
refusal_head s h d f = simp (← d, ne_eqb h 0 f)

pub refusal_entries : (s : List ℕ) (h q r : ℕ) → h ≡ head_refusal s → h ≡ 0 → q ≡ count_of s → r ≡ entries_refusal (version_of s) s (bound_of s) 0 head_size q → r ≡ sheet_refusal s
unfolding sheet_refusal
refusal_entries s h q r d z dq dr = simp (← d, eq-eqb h 0 z, ← dq) dr

-- the answer, by its refusal
pub answer_refused : (s : List ℕ) (r : Refusal) → number r ≡ sheet_refusal s → Err r ≡ sheet_answer s
unfolding sheet_answer
answer_refused s r d = sym (judged-err (sheet_refusal s) (heading (count_of s) (bound_of s)) r d)

pub answer_accepted : (s : List ℕ) (q : ℕ) → 0 ≡ sheet_refusal s → q ≡ count_of s → Ok (heading q (bound_of s)) ≡ sheet_answer s
unfolding sheet_answer
answer_accepted s q d dq = rw dq (sym (judged-ok (sheet_refusal s) (heading (count_of s) (bound_of s)) (sym d)))

-- ---- the readers
pub kind_returned : (s : List ℕ) (at : ℕ) → Readable s at → (r : Result Kind Refusal) (kind : Kind) → r ≡ Ok kind → Decodes (get_or s (at + 1) 0) r → kind_number kind ≡ kind_of (entry_at s at)
kind_returned s at h r kind e d = (rw e at d) ∙ kind_read h

pub number_returned : (s : List ℕ) (at i r : ℕ) → HasNumber s at i → r ≡ number_at s (at + 2 + 2 * i) → r ≡ get_or (numbers (entry_at s at)) i 0
number_returned s at i r h d = d ∙ number_read h

module _ (s : List ℕ) (at : ℕ) (h : HasWay s at 4) (count : ℕ) (d : count ≡ get_or s (at + 2) 0) (f : count < 256) where
  pub first_of_way : 4 ≡ kind_of (entry_at s at) → Reads s (first_place s at) (first_way_lem (entry_at s at)) (record { start = at + 3; count = count; version = version_of s })
  unfolding step_counts
  first_of_way k =
      first_reads h (record { start = at + 3; count = count; version = version_of s }) f
      (rw (kind_read h.entry ∙ sym k, d) (ap (λ a. record { start = a; count = get_or s (at + 2) 0; version = version_of s }) (let e : at + 3 ≡ at + 2 + 1 = omega arith in e)))

  pub first_of_comparison : (kind : Kind) → kind_number kind ≡ kind_of (entry_at s at) → (kind ≡ says.Way → ⊥) → Reads s (first_place s at) (first_way_lem (entry_at s at)) (record { start = at + 4; count = count; version = version_of s })
  first_of_comparison kind k f' =
      let g : kind_of (entry_at s at) ≡ 4 → ⊥ = λ e. kind_unlike kind says.Way f' (k ∙ e) in
      let t = second_two (record { entry = h.entry; kind = let l = h.kind in omega (arith, g) }) in
      first_reads h (record { start = at + 4; count = count; version = version_of s }) f
      (rw (d, t) (ap (λ a. record { start = a; count = get_or s (at + 2) 0; version = version_of s }) (let e : at + 4 ≡ at + 2 + 2 = omega arith in e)))

pub second_of_comparison : (s : List ℕ) (at : ℕ) → HasWay s at 5 → (first count size : ℕ) → first ≡ get_or s (at + 2) 0 → count ≡ get_or s (at + 3) 0 → count < 256
    → size ≡ step_width (version_of s) * first → Reads s (second_place s at) (second_way (entry_at s at)) (record { start = at + 4 + size; count = count; version = version_of s })
second_of_comparison s at h first count size d e f g =
    second_reads h (record { start = at + 4 + size; count = count; version = version_of s }) f
    (rw (g, d, e, second_two h)
    (ap₂ (λ a b. record { start = a; count = get_or s b 0; version = version_of s })
    (let p : at + 4 + step_width (version_of s) * get_or s (at + 2) 0 ≡ at + 2 + 2 + step_width (version_of s) * get_or s (at + 2) 0 = omega arith in p) (let p : at + 3 ≡ at + 2 + 1 = omega arith in p)))

module _ (s : List ℕ) (w : Steps) (i : ℕ) (h : HasStep s w i) (m : ℕ) (dm : m ≡ step_width w.version * i) where
  step_inside : w.start + m + (label_width w.version + 2) ≤ length s
  step_inside = omega (arith, mul-le-mul_left (step_width w.version) h.present, h.inside)

  pub label_inside : w.start + m + label_width w.version ≤ length s
  label_inside = omega (arith, step_inside)

  pub test_inside : (l : ℕ) → l ≡ label_width w.version → w.start + m + l + 2 ≤ length s
  test_inside l d = omega (arith, step_inside)

  at-step : step_in (steps_of s w) i ≡ step_at w.version s (w.start + m)
  at-step = steps_in w.version s w.start w.count i h.present ∙ ap (λ k. step_at w.version s (w.start + k)) (sym dm)

  pub label_returned : (r : ℕ) → r ≡ field (label_width w.version) s (w.start + m) → r ≡ (step_in (steps_of s w) i).label
  label_returned r d = d ∙ ap (λ t. t.label) (sym at-step)

  pub test_returned : (l r : ℕ) → l ≡ label_width w.version → r ≡ number_at s (w.start + m + l) → r ≡ (step_in (steps_of s w) i).test
  test_returned l r dl d = d ∙ ap (λ k. number_at s (w.start + m + k)) dl ∙ ap (λ t. t.test) (sym at-step)

-- ---- the start of an entry, one turn at a time
module _ (s : List ℕ) (at n : ℕ) (i : at ≡ entry_start s n) where
  pub start_readable : (k : ℕ) → sheet_refusal s ≡ 0 → k < count_of s → n < k → Readable s at
  start_readable k g h l = readable s n at g (omega arith) i

  pub start_next : (b : ℕ) → b ≡ next_at s at → b ≡ entry_start s (n + 1)
  start_next b d = rw (entry_start-next s n, d, i)

  pub start_end : (k : ℕ) → n ≤ k → k ≤ n → at ≡ entry_start s k
  start_end k h l = i ∙ ap (entry_start s) (omega arith)
