-- What each writer leaves in the room, where what the calls before it left is known.
use mathlib.Core.List.{List, [], ◌∷◌, ◌++◌, append_assoc, append-nil}
use mathlib.Core.Path.{◌≡◌, refl, sym, ap, ap₂, ◌∙◌}
use Prim.Native.Nat.{ℕ, zero, suc, ◌+◌, ◌-◌, ◌*◌, ◌/◌, ◌%◌, ◌^◌, ◌≤◌, ◌<◌}
use native.Mathlib.Nat.{mul-le-mul_left}
use native.Mathlib.Numerals.{add-one}
use native.Mathlib.Omega.{arith}
use lib.ListN.{length, get_or, set, take, drop, length-append}
use lib.Seq.{sets}
use Rattle.std.proofs.Math.Seq.{drop-cons, drop-length}
use Rattle.fields.specs.Fields.{bytes_of, with_field}
use Rattle.fields.specs.Label.{label_width}
use Rattle.fields.specs.Laws.{length-bytes_of, sets_append}
use Rattle.sheet.specs.Entry.{Step, entry_with, kind_of, truth, negation, conjunction, disjunction, way}
use Rattle.sheet.specs.Sheet.{number_width, step_width}
use Rattle.sheet.specs.Encoding.{encode_steps, body_of, encode_entry, header}
use Rattle.sheet.proofs.AcceptedLaws.{kind_cases}
use Rattle.sheet.specs.WrittenLaws.{size_of, length-encode_steps}
use Rattle.sheet_writer.specs.Writing.{step, steps_given, given, PutEntry, StepsFit, WaysFit, PutPlain, PutWays}
use Rattle.sheet_writer.specs.declared.Step.{Step as Given}
use Rattle.sheet_writer.specs.WritingLaws.{put_entry}

-- one run of bytes behind another
after : {mid exit : List ℕ} (room : List ℕ) (at to : ℕ) (us vs : List ℕ) → mid ≡ sets room at us → exit ≡ sets mid to vs → to ≡ at + length us → exit ≡ sets room at (us ++ vs)
after room at to us vs p q e = rw (q, p, e) (sym (sets_append us vs room at))

pub pair_written : (room : List ℕ) (at a b : ℕ) → set (set room at a) (at + 1) b ≡ sets room at (a ∷ b ∷ [])
pair_written room at a b = rw (add-one at)

pub header-written : (room mid end exit : List ℕ) (v l c q : ℕ) → mid ≡ with_field 4 room 0 l → end ≡ sets mid 4 (v ∷ c ∷ []) → exit ≡ with_field 2 end 6 q
    → exit ≡ sets room 0 (header v l c q)
unfolding with_field header
header-written room mid end exit v l c q p d e =
    after room 0 4 (bytes_of 4 l) (v ∷ c ∷ bytes_of 2 q) p (after mid 4 6 (v ∷ c ∷ []) (bytes_of 2 q) d e (omega arith)) (omega (arith, length-bytes_of 4 l))

pub true_written : (room exit : List ℕ) (at : ℕ) → exit ≡ sets room at (1 ∷ 0 ∷ []) → PutPlain room at truth exit (at + 2)
unfolding encode_entry body_of kind_of size_of
true_written room exit at p = record { any = λ v. put_entry v truth p refl }

pub not_written : (room mid exit : List ℕ) (at i : ℕ) → mid ≡ sets room at (3 ∷ 1 ∷ []) → exit ≡ with_field 2 mid (at + 2) i → PutPlain room at (negation i) exit (at + 4)
unfolding with_field encode_entry body_of kind_of size_of bytes_of
not_written room mid exit at i p q = record { any = λ v. put_entry v (negation i) (after room at (at + 2) (3 ∷ 1 ∷ []) (bytes_of 2 i) p q refl) refl }

two_bytes : (v i j k : ℕ) → k ≤ 6 → 2 ≤ k → k ≤ 3
    → (encode_entry v (entry_with k i j [] []) ≡ 5 ∷ k ∷ (bytes_of 2 i ++ bytes_of 2 j)) × (size_of v (entry_with k i j [] []) ≡ 6)
unfolding encode_entry body_of kind_of size_of bytes_of entry_with
two_bytes v i j =
    kind_cases (λ k. 2 ≤ k → k ≤ 3 → (encode_entry v (entry_with k i j [] []) ≡ 5 ∷ k ∷ (bytes_of 2 i ++ bytes_of 2 j)) × (size_of v (entry_with k i j [] []) ≡ 6))
    (λ h l. absurd (omega arith)) (λ h l. absurd (omega arith)) (λ h l. (refl, refl)) (λ h l. (refl, refl)) (λ h l. absurd (omega arith))
    (λ h l. absurd (omega arith)) (λ h l. absurd (omega arith))

pub two-written : (room mid end exit : List ℕ) (at kind i j : ℕ) → mid ≡ sets room at (5 ∷ kind ∷ []) → end ≡ with_field 2 mid (at + 2) i
    → exit ≡ with_field 2 end (at + 4) j → 2 ≤ kind → kind ≤ 3 → PutPlain room at (entry_with kind i j [] []) exit (at + 6)
unfolding with_field
two-written room mid end exit at kind i j p q r h l =
    record {
      any = λ v.
          let (b, z) = two_bytes v i j kind (omega arith) h l in
          put_entry v (entry_with kind i j [] [])
          (after room at (at + 2) (5 ∷ kind ∷ []) (bytes_of 2 i ++ bytes_of 2 j) p
          (after mid (at + 2) (at + 4) (bytes_of 2 i) (bytes_of 2 j) q r (omega (arith, length-bytes_of 2 i))) refl
          ∙ ap (sets room at) (sym b)) (omega arith);
    }

pub and-written : (room exit : List ℕ) (at i j next : ℕ) → PutPlain room at (entry_with 2 i j [] []) exit next → PutPlain room at (conjunction i j) exit next
unfolding entry_with
and-written room exit at i j next w = w

pub or-written : (room exit : List ℕ) (at i j next : ℕ) → PutPlain room at (entry_with 3 i j [] []) exit next → PutPlain room at (disjunction i j) exit next
unfolding entry_with
or-written room exit at i j next w = w

-- ---- steps, one turn at a time

drop-next : (gs : List Given) (i : ℕ) → i < length gs → drop i gs ≡ given gs i ∷ drop (i + 1) gs
drop-next gs i h = rw (add-one i) (drop-cons gs i (record { label = 0; test = record { 0 = 0 } }) h)

encode_steps-append : (v : ℕ) (ss ts : List Step) → encode_steps v (ss ++ ts) ≡ encode_steps v ss ++ encode_steps v ts
unfolding encode_steps
encode_steps-append v [] ts = refl
encode_steps-append v (s ∷ ss) ts = rw (encode_steps-append v ss ts) (simp append_assoc)

pub step-written : (v : ℕ) (room mid exit : List ℕ) (at a i w : ℕ) → w ≡ label_width v → mid ≡ with_field (label_width v) room at a → exit ≡ with_field number_width mid (at + w) i
    → exit ≡ sets room at (encode_steps v (step a i ∷ []))
unfolding encode_steps with_field
step-written v room mid exit at a i w d p q =
    rw append-nil (after room at (at + w) (bytes_of (label_width v) a) (bytes_of number_width i) p q (omega (arith, length-bytes_of (label_width v) a)))

pub length-steps_given : (gs : List Given) → length (steps_given gs) ≡ length gs
unfolding steps_given
length-steps_given [] = refl
length-steps_given (g ∷ gs) = ap suc (length-steps_given gs)

module _ (v : ℕ) (start : List ℕ) (base : ℕ) (gs : List Given) where
  -- what the room holds in the end, where `room` holds the steps before i and the others go to `at`
  abbrev pub Rest : List ℕ → ℕ → ℕ → Type 0
  Rest room at i = sets start base (encode_steps v (steps_given gs)) ≡ sets room at (encode_steps v (steps_given (drop i gs)))

  -- there is room for step i
  module _ (fit : StepsFit v start base gs) (i : ℕ) (h : i < length gs) where
    pub steps_room : (room : List ℕ) (at : ℕ) → at ≡ base + step_width v * i → length room ≡ length start → at + step_width v ≤ length room
    steps_room room at e l = omega (arith, mul-le-mul_left (step_width v) h, fit.inside)

    pub steps-narrow : (given gs i).label < 256 ^ label_width v
    steps-narrow = fit.narrow i h

  pub steps-count : (at i : ℕ) → at ≡ base + step_width v * i → i ≤ length gs → length gs ≤ i → at ≡ base + step_width v * length gs
  steps-count at i e h l = rw (let d : length gs ≡ i = omega arith in d) e

  pub steps-end : (room : List ℕ) (at i : ℕ) → Rest room at i → i ≤ length gs → length gs ≤ i → room ≡ sets start base (encode_steps v (steps_given gs))
  unfolding encode_steps steps_given
  steps-end room at i h l m = sym (rw (let e : i ≡ length gs = omega arith in e, drop-length gs) at h)

  pub steps_next : (room end : List ℕ) (at i : ℕ) → Rest room at i → i < length gs
      → end ≡ sets room at (encode_steps v (step (given gs i).label (given gs i).test.0 ∷ [])) → (to : ℕ) → to ≡ at + step_width v → Rest end to (i + 1)
  unfolding steps_given
  steps_next room end at i h l p to d =
      let S = step (given gs i).label (given gs i).test.0 ∷ [] in
      let T = steps_given (drop (i + 1) gs) in
      rw (d, p)
      (h ∙ ap (λ gs. sets room at (encode_steps v (steps_given gs))) (drop-next gs i l)
      ∙ ap (sets room at) (encode_steps-append v S T) ∙ sets_append (encode_steps v S) (encode_steps v T) room at
      ∙ ap (λ n. sets (sets room at (encode_steps v S)) (at + n) (encode_steps v T)) (let l : length (encode_steps v S) ≡ step_width v = omega (arith, length-encode_steps v S) in l))

-- ---- ways

-- what fits into a room fits into one as long
module _ (v : ℕ) (room room' : List ℕ) (e : length room' ≡ length room) where
  pub steps-kept : (at : ℕ) (gs : List Given) → StepsFit v room at gs → StepsFit v room' at gs
  steps-kept at gs f = record { narrow = f.narrow; inside = omega (arith, f.inside) }

  module _ (at : ℕ) (gs gs' : List Given) (f : WaysFit v room at gs gs') where
    pub ways-kept : WaysFit v room' at gs gs'
    ways-kept =
        record {
          short = f.short;
          short' = f.short';
          first = steps-kept at gs f.first;
          second = steps-kept (at + step_width v * length gs) gs' f.second;
        }

    pub second_kept : (to : ℕ) → to ≡ at + step_width v * length gs → StepsFit v room' to gs'
    second_kept to d = rw d ways-kept.second

pub way-written : (v : ℕ) (room mid exit : List ℕ) (at size next : ℕ) (gs : List Given) → length gs ≤ 60 → size ≡ step_width v * length gs → mid ≡ sets room at ((2 + size) ∷ 4 ∷ [])
    → exit ≡ sets (set mid (at + 2) (length gs)) (at + 3) (encode_steps v (steps_given gs)) → next ≡ at + 3 + step_width v * length gs
    → PutEntry v room at (way (steps_given gs)) exit next
unfolding encode_entry body_of kind_of size_of
way-written v room mid exit at size next gs h d p r e =
    let S = encode_steps v (steps_given gs) in
    let l = length-steps_given gs in
    put_entry v (way (steps_given gs))
    (after room at (at + 2) ((2 + size) ∷ 4 ∷ []) (length gs ∷ S) p
    (after mid (at + 2) (at + 3) (length gs ∷ []) S refl r (omega arith)) refl
    ∙ ap₂ (λ a b. sets room at (a ∷ 4 ∷ b ∷ S)) (omega (arith, length-encode_steps v (steps_given gs), ap (λ n. step_width v * n) l)) (sym l)) (omega (arith, ap (λ n. step_width v * n) l))

pub counts_written : (v : ℕ) (room mid exit : List ℕ) (at kind k j size : ℕ) → size ≡ step_width v * (k + j) → mid ≡ sets room at ((3 + size) ∷ kind ∷ []) → exit ≡ sets mid (at + 2) (k ∷ j ∷ [])
    → exit ≡ sets room at ((3 + step_width v * (k + j)) ∷ kind ∷ k ∷ j ∷ [])
counts_written v room mid exit at kind k j size d p q = rw (← d) (after room at (at + 2) ((3 + size) ∷ kind ∷ []) (k ∷ j ∷ []) p q refl)

pub ways-written : (v : ℕ) (room mid exit : List ℕ) (at to next : ℕ) (gs gs' : List Given)
    → mid ≡ sets room at (encode_steps v (steps_given gs)) → to ≡ at + step_width v * length gs → exit ≡ sets mid to (encode_steps v (steps_given gs')) → next ≡ to + step_width v * length gs'
    → PutWays v room at (steps_given gs) (steps_given gs') exit next
ways-written v room mid exit at to next gs gs' p t q e =
    let S = encode_steps v (steps_given gs) in
    let S' = encode_steps v (steps_given gs') in
    let n = length-encode_steps v (steps_given gs) in
    let w = ap (λ i. step_width v * i) (length-steps_given gs) in
    let w' = ap (λ i. step_width v * i) (length-steps_given gs') in
    record { left = after room at to S S' p q (omega (arith, n, w)); end = omega (arith, n, w, w', length-encode_steps v (steps_given gs'), length-append S S') }

-- the bytes of a same or a differ
comparison_bytes : (v : ℕ) (s s' : List Step) (n k : ℕ) → k ≤ 6 → 5 ≤ k → n ≡ 3 + length (encode_steps v s ++ encode_steps v s')
    → (encode_entry v (entry_with k 0 0 s s') ≡ n ∷ k ∷ length s ∷ length s' ∷ (encode_steps v s ++ encode_steps v s')) × (size_of v (entry_with k 0 0 s s') ≡ 4 + step_width v * (length s + length s'))
unfolding encode_entry body_of kind_of size_of entry_with
comparison_bytes v s s' n =
    kind_cases
    (λ k. 5 ≤ k → n ≡ 3 + length (encode_steps v s ++ encode_steps v s')
    → (encode_entry v (entry_with k 0 0 s s') ≡ n ∷ k ∷ length s ∷ length s' ∷ (encode_steps v s ++ encode_steps v s')) × (size_of v (entry_with k 0 0 s s') ≡ 4 + step_width v * (length s + length s')))
    (λ h. absurd (omega arith)) (λ h. absurd (omega arith)) (λ h. absurd (omega arith)) (λ h. absurd (omega arith)) (λ h. absurd (omega arith))
    (λ h e. (counted 5 e, refl)) (λ h e. (counted 6 e, refl))
  where
    counted : (k : ℕ) → n ≡ 3 + length (encode_steps v s ++ encode_steps v s')
        → suc (suc (suc (length (encode_steps v s ++ encode_steps v s')))) ∷ k ∷ length s ∷ length s' ∷ (encode_steps v s ++ encode_steps v s')
        ≡ n ∷ k ∷ length s ∷ length s' ∷ (encode_steps v s ++ encode_steps v s')
    counted k e = ap (λ n. n ∷ k ∷ length s ∷ length s' ∷ (encode_steps v s ++ encode_steps v s')) (omega arith)

pub comparison-written : (v : ℕ) (room mid exit : List ℕ) (at kind next : ℕ) (gs gs' : List Given) → 5 ≤ kind → kind ≤ 6
    → mid ≡ sets room at ((3 + step_width v * (length gs + length gs')) ∷ kind ∷ length gs ∷ length gs' ∷ [])
    → PutWays v mid (at + 4) (steps_given gs) (steps_given gs') exit next
    → PutEntry v room at (entry_with kind 0 0 (steps_given gs) (steps_given gs')) exit next
comparison-written v room mid exit at kind next gs gs' h l p w =
    let s = steps_given gs in
    let s' = steps_given gs' in
    let S = encode_steps v s in
    let S' = encode_steps v s' in
    let m = length-steps_given gs in
    let m' = length-steps_given gs' in
    let w₁ = ap (λ i. step_width v * i) m in
    let w₂ = ap (λ i. step_width v * i) m' in
    let (b, z) = comparison_bytes v s s' (3 + step_width v * (length gs + length gs')) kind l h (omega (arith, length-append S S', length-encode_steps v s, length-encode_steps v s', w₁, w₂)) in
    put_entry v (entry_with kind 0 0 s s')
    (after room at (at + 4) ((3 + step_width v * (length gs + length gs')) ∷ kind ∷ length gs ∷ length gs' ∷ []) (S ++ S') p w.left refl
    ∙ ap₂ (λ a c. sets room at ((3 + step_width v * (length gs + length gs')) ∷ kind ∷ a ∷ c ∷ (S ++ S'))) (sym m) (sym m') ∙ ap (sets room at) (sym b))
    (omega (arith, w.end, length-append S S', length-encode_steps v s, length-encode_steps v s', w₁, w₂))
