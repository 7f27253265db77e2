-- What each way out of the functions on bytes and counts shows of the definitions of `specs/`.
use mathlib.Core.Bool.{Bool, false, So}
use mathlib.Core.Path.{◌≡◌, sym, ◌∙◌}
use mathlib.Core.List.{List, []}
use Prim.Native.Nat.{ℕ, ◌+◌, ◌-◌, ◌≤◌, ◌<◌}
use native.Mathlib.Nat.{mul-le-mul_left}
use native.Mathlib.Omega.{arith}
use borrow.Author.Tests.{lt-ltb, le-ltb, lt-leb, ltb-true, leb-true, eq-eqb, ne_eqb}
use lib.Dec.{leb}
use lib.ListN.{length, take, drop}
use Rattle.std.specs.Prelude.{Some, None, Result, Ok}
use Rattle.outcome.specs.declared.Refusal.{Refusal}
use Rattle.book.specs.declared.Counts.{Counts}
use Rattle.fields.specs.Label.{label_width}
use Rattle.theory.proofs.TestLaws.{and_iff}
use Rattle.book.specs.Book.{recording_place, recording_at, version_of, link_width, link_start, link_in, book_answer}
use Rattle.book.specs.BookLinks.{links_before, links_after}
use Rattle.book.specs.OutgoingLaws.{before-rises}
use Rattle.book.specs.declared.Recording.{Recording}
use Rattle.open_book.specs.Opened.{answer_kept, has_kept, recording_kept, run_kept, part_kept}

-- ---- the answer
module _ (s : List ℕ) (n e : ℕ) where
  pub answer_checked : {a : Result Counts Refusal} → n ≡ 0 → a ≡ book_answer s → a ≡ answer_kept s n e
  unfolding answer_kept
  answer_checked z d = rw (eq-eqb n 0 z) d

  pub answer_counted : (n ≡ 0 → ⊥) → Ok (record { cells = n; links = e }) ≡ answer_kept s n e
  unfolding answer_kept
  answer_counted f = rw (ne_eqb n 0 f)

module _ (s : List ℕ) (n e x : ℕ) where
  -- ---- whether there is such a cell
  pub has_none : n ≤ x → false ≡ has_kept s n e x
  unfolding has_kept
  has_none h = rw (le-ltb x n h)

  pub has_short : x < n → length s < 8 → false ≡ has_kept s n e x
  unfolding has_kept
  has_short h l = rw (lt-ltb x n h, lt-leb (link_start s n e) (length s) (omega arith))

  pub has_room : (l : ℕ) → x < n → l ≡ link_start s n e → leb l (length s) ≡ has_kept s n e x
  unfolding has_kept
  has_room l h d = rw (lt-ltb x n h, d)

  module _ (t : Bool) (d : t ≡ has_kept s n e x) where
    module _ (p : So t) where
      kept : (x < n) × (link_start s n e ≤ length s)
      unfolding has_kept
      kept = let (a, b) = (and_iff _ _).0 (sym d ∙ p) in (ltb-true x n a, leb-true _ _ b)

      pub kept-below : x < n
      kept-below = kept.0

      pub kept_room : link_start s n e ≤ length s
      kept_room = kept.1

      pub recorded_room : recording_place (x + 1) ≤ length s
      recorded_room = omega (arith, kept-below, kept_room)

      pub recorded : (r : Recording) → r.0 ≡ recording_at s x → Some r ≡ recording_kept s n e x
      unfolding recording_kept
      recorded r e = rw (← d, p, ← e)

      pub part-run : {r : List ℕ} → r ≡ run_kept s n e x → r ≡ part_kept s n e x
      unfolding part_kept
      part-run e = rw (← d, p) e

    module _ (p : t ≡ false) where
      pub recorded_none : None ≡ recording_kept s n e x
      unfolding recording_kept
      recorded_none = rw (← d, p)

      pub part_none : [] ≡ part_kept s n e x
      unfolding part_kept
      part_none = rw (← d, p)

-- ---- the links out of a cell
module _ (s : List ℕ) (n e x first end from to : ℕ) (df : first ≡ links_before x (links_after s n e)) (de : end ≡ links_before (x + 1) (links_after s n e))
    (dfrom : from ≡ link_start s n first) (dto : to ≡ link_start s n end) where
  pub run-rises : from ≤ to
  run-rises =
      let r : first ≤ end = rw (df, de) (before-rises x e (λ k. link_in (label_width (version_of s)) s (link_start s n k))) in
      omega (arith, mul-le-mul_left (link_width s) r)

  pub run_bytes : take (to - from) (drop from s) ≡ run_kept s n e x
  unfolding run_kept
  run_bytes = rw (dfrom, dto, df, de)
