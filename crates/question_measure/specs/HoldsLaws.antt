-- Laws of a list that is filled from the front: none, fewer and one place more.
use Rattle.std.specs.Prelude.{Bool, true, false, List, ◌≡◌, refl, ℕ, ◌+◌, ◌≤◌, ◌<◌, eqb, length, get_or, set}
use Rattle.std.proofs.Common.{◌∙◌, not-suc-le-zero, arith, eqb-true, get_or-set_same, get_or-set_other}
use Rattle.std.proofs.lemmas.Bool.{eqb-false}
use Rattle.question_measure.specs.Holds.{Holds}

pub holds_none : (f : ℕ → ℕ) (l : List ℕ) → Holds f 0 l
holds_none f l = record { each = λ i h. absurd (not-suc-le-zero h) }

pub holds_fewer : {f : ℕ → ℕ} {n : ℕ} {l : List ℕ} → Holds f n l → (m : ℕ) → m ≤ n → Holds f m l
holds_fewer h m k = record { each = λ i l. h.each i (omega arith) }

-- one place more
pub holds_next : {f : ℕ → ℕ} {k : ℕ} {l : List ℕ} → Holds f k l → k < length l → (v : ℕ) → v ≡ f k → Holds f (k + 1) (set l k v)
holds_next {f} {k} {l} h b v d = record { each = λ i p. go i p (eqb i k) refl }
  where
    go : (i : ℕ) → i < k + 1 → (b : Bool) → eqb i k ≡ b → get_or (set l k v) i 0 ≡ f i
    go i p true e = rw (eqb-true i k e) (get_or-set_same l k v 0 b ∙ d)
    go i p false e = get_or-set_other l k i v 0 (eqb-false i k e) ∙ h.each i (let n = eqb-false i k e in omega arith)
