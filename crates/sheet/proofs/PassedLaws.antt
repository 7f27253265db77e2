-- What the check passes: a header, a body and an entry that are not refused, and an accepted sheet's parts.
use Rattle.std.specs.Prelude.{Bool, false, not, ◌&&◌, List, ◌≡◌, refl, ℕ, ◌+◌, ◌-◌, ◌≤◌, eqb, ltb, leb, length, get_or}
use Rattle.std.proofs.Common.{◌∙◌, arith, eq-eqb, ltb-false, leb-false, eqb-true}
use Rattle.std.proofs.lemmas.Bool.{eqb-false, not-false}
use Rattle.outcome.specs.RefusalLaws.{first-zero, passed, passed-not}
use Rattle.sheet.specs.Sheet.{length_of, version_of, bound_of, count_of, head_size, most_version, most_bound, most_entries, most_kind, step_counts, head_refusal, too_large, required, body_refusal, kind_refusal, entry_refusal, entries_refusal, sheet_refusal}
use Rattle.sheet.specs.Passed.{Headed, Sized, EntryPassed}

positive : (q : ℕ) → (q ≡ 0 → ⊥) → 1 ≤ q
positive q f = omega arith

pub headed : (s : List ℕ) → head_refusal s ≡ 0 → Headed s
unfolding head_refusal
headed s h =
    let a = passed (ltb (length s) head_size) 0 h in
    let b = passed-not (eqb (length_of s) (length s)) 1 a.1 in
    let v = passed (eqb (version_of s) 0) 2 b.1 in
    let d = passed (ltb most_version (version_of s)) 2 v.1 in
    let e = passed (ltb most_bound (bound_of s)) 7 d.1 in
    let f = passed (eqb (count_of s) 0) 7 e.1 in
    let g = passed (ltb most_entries (count_of s)) 7 f.1 in
    let n = eqb-false _ _ f.0 in
    record {
      eight = ltb-false _ _ a.0;
      whole = eqb-true _ _ b.0;
      version = (positive (version_of s) (eqb-false _ _ v.0), ltb-false _ _ d.0);
      bounded = ltb-false _ _ e.0;
      some = positive (count_of s) n;
      most = ltb-false _ _ g.0;
    }

sized : (v : ℕ) (s : List ℕ) (c n kind at size : ℕ) → body_refusal v s c n kind at size ≡ 0 → Sized v s c n kind at size
unfolding body_refusal
sized v s c n kind at size h =
    let a = passed (ltb size (step_counts kind)) 13 h in
    let b = passed (too_large v c kind s at) 10 a.1 in
    let d = passed-not (eqb size (required v kind s at)) 13 b.1 in
    record { small = b.0; exact = eqb-true _ _ d.0; earlier = d.1 }

pub kind_passed : (n kind : ℕ) → kind_refusal n kind ≡ 0 → (kind ≤ most_kind) × (n ≡ 0 → kind ≡ 0)
unfolding kind_refusal
kind_passed n kind h =
    let a = passed (ltb (most_kind) kind) 9 h in
    let b = passed (eqb n 0 && not (eqb kind 0)) 12 a.1 in
    (ltb-false _ _ a.0, λ z. only (eqb kind 0) refl (simp (eq-eqb n 0 z) at b.0))
  where
    only : (b : Bool) → eqb kind 0 ≡ b → not b ≡ false → kind ≡ 0
    only b e f = eqb-true _ _ (e ∙ not-false b f)

pub standing : (v : ℕ) (s : List ℕ) (c n at : ℕ) → entry_refusal v s c n at ≡ 0 → EntryPassed v s c n at
unfolding entry_refusal
standing v s c n at h =
    let a = passed (leb (length s) at) 8 h in
    let b = passed (eqb (get_or s at 0) 0) 8 a.1 in
    let d = passed (leb (length s) (at + get_or s at 0)) 8 b.1 in
    let e = first-zero (kind_refusal n (get_or s (at + 1) 0)) d.1 in
    let k = kind_passed n (get_or s (at + 1) 0) e.0 in
    let f = eqb-false _ _ b.0 in
    record {
      present = positive (get_or s at 0) f;
      inside = leb-false _ _ d.0;
      known = k.0;
      first = k.1;
      body = sized v s c n (get_or s (at + 1) 0) (at + 2) (get_or s at 0 - 1) e.1;
    }

-- ---- an accepted sheet

pub accepted_head : (s : List ℕ) → sheet_refusal s ≡ 0 → Headed s
unfolding sheet_refusal
accepted_head s h = headed s (first-zero (head_refusal s) h).0

pub accepted-entries : (s : List ℕ) → sheet_refusal s ≡ 0 → entries_refusal (version_of s) s (bound_of s) 0 head_size (count_of s) ≡ 0
unfolding sheet_refusal
accepted-entries s h = (first-zero (head_refusal s) h).1
