-- Laws of the first refusal that applies, and of answers that are given test by test.
use Rattle.std.specs.Prelude.{Bool, true, false, not, cond, ◌≡◌, refl, ℕ, zero, suc, ◌≤◌, ◌<◌, eqb, Result, Ok, Err, IsErrAnd, MatchResult}
use Rattle.std.proofs.Common.{arith, sym, ap, ◌∙◌, eq-eqb, ne_eqb}
use Rattle.outcome.specs.Refusals.{first_of}
use Rattle.outcome.specs.Refused.{number, named, of_part, refusal_in, judged}
use Rattle.outcome.specs.declared.Refusal.{Refusal}
use Rattle.outcome.specs.declared.Refusal.TheVariants as says
use Rattle.outcome.specs.declared.Part.{Part}
use Rattle.outcome.specs.declared.Refused.{Refused}

pub first_none : (r rest : ℕ) → r ≡ 0 → first_of r rest ≡ rest
first_none r rest e = simp (eq-eqb r 0 e)

pub first_some : (r rest : ℕ) → (r ≡ 0 → ⊥) → first_of r rest ≡ r
first_some r rest f = simp (ne_eqb r 0 f)

-- none applies: neither does each
pub first-zero : (r : ℕ) {rest : ℕ} → first_of r rest ≡ 0 → (r ≡ 0) × (rest ≡ 0)
first-zero zero e = (refl, e)
first-zero (suc r) e = absurd (omega (arith, simp (ne_eqb (suc r) 0 (λ p. omega arith)) at e))

-- an answer that is not given is not applied for, and what follows decides
pub passed_by : {A : Type 0} (b : Bool) {x rest answer : A} → (x ≡ answer → ⊥) → cond b x rest ≡ answer → (b ≡ false) × (rest ≡ answer)
passed_by true f e = absurd (f e)
passed_by false f e = (refl, e)

-- a refusal that is not given
pub passed : (b : Bool) (k : ℕ) {rest : ℕ} → cond b (suc k) rest ≡ 0 → (b ≡ false) × (rest ≡ 0)
passed b k = passed_by b (λ e. omega arith)

not-passed : (b : Bool) → not b ≡ false → b ≡ true
not-passed true e = refl
not-passed false e = λ i. not (e i)

pub passed-not : (b : Bool) (k : ℕ) {rest : ℕ} → cond (not b) (suc k) rest ≡ 0 → (b ≡ true) × (rest ≡ 0)
passed-not b k e = let (f, r) = passed (not b) k e in (not-passed b f, r)

-- what holds of an answer that is given on a test, and of what follows, holds of both together
pub either : {A : Type 0} (P : A → Type 0) (b : Bool) {x rest : A} → (b ≡ true → P x) → (b ≡ false → P rest) → P (cond b x rest)
either P true f g = f refl
either P false f g = g refl

-- a refusal is at most m where each is
pub first_most : (m : ℕ) {r rest : ℕ} → r ≤ m → rest ≤ m → first_of r rest ≤ m
first_most m {r = r} h k = either (λ n. n ≤ m) (eqb r 0) (λ _. k) (λ _. h)

-- ---- refusals by name

-- the refusal of a refusal's number is that refusal
pub named-number : (r : Refusal) → named (number r) ≡ r
unfolding named
named-number says.FewBytes = refl
named-number says.OtherLength = refl
named-number says.OtherVersion = refl
named-number says.BookCounts = refl
named-number says.OtherSize = refl
named-number says.LinkCell = refl
named-number says.LinkOrder = refl
named-number says.SheetCounts = refl
named-number says.EntryBytes = refl
named-number says.OtherKind = refl
named-number says.ManySteps = refl
named-number says.NotEarlier = refl
named-number says.FirstEntry = refl
named-number says.BodyBytes = refl
named-number says.BoundAbove = refl
named-number says.MapLength = refl
named-number says.FewRoom = refl
named-number says.FewScratch = refl
named-number says.FewWords = refl
named-number says.NoEntry = refl
named-number says.NoPlace = refl
named-number says.RowLength = refl
named-number says.LongChain = refl
named-number says.LongText = refl
named-number says.TextRoom = refl
named-number says.HiddenBeyond = refl

-- of a book's or a sheet's refusal, 1 to 14, the number of its name is it
pub number-named : (k : ℕ) → k < 14 → number (named (suc k)) ≡ suc k
unfolding named
number-named zero h = refl
number-named (suc zero) h = refl
number-named (suc (suc zero)) h = refl
number-named (suc (suc (suc zero))) h = refl
number-named (suc (suc (suc (suc zero)))) h = refl
number-named (suc (suc (suc (suc (suc zero))))) h = refl
number-named (suc (suc (suc (suc (suc (suc zero)))))) h = refl
number-named (suc (suc (suc (suc (suc (suc (suc zero))))))) h = refl
number-named (suc (suc (suc (suc (suc (suc (suc (suc zero)))))))) h = refl
number-named (suc (suc (suc (suc (suc (suc (suc (suc (suc zero))))))))) h = refl
number-named (suc (suc (suc (suc (suc (suc (suc (suc (suc (suc zero)))))))))) h = refl
number-named (suc (suc (suc (suc (suc (suc (suc (suc (suc (suc (suc zero))))))))))) h = refl
number-named (suc (suc (suc (suc (suc (suc (suc (suc (suc (suc (suc (suc zero)))))))))))) h = refl
number-named (suc (suc (suc (suc (suc (suc (suc (suc (suc (suc (suc (suc (suc zero))))))))))))) h = refl
number-named (suc (suc (suc (suc (suc (suc (suc (suc (suc (suc (suc (suc (suc (suc k)))))))))))))) h = absurd (omega (arith, h))

-- a number of no refusal is none of a refusal's
pub number-some : (r : Refusal) → number r ≡ 0 → ⊥
number-some says.FewBytes e = omega arith
number-some says.OtherLength e = omega arith
number-some says.OtherVersion e = omega arith
number-some says.BookCounts e = omega arith
number-some says.OtherSize e = omega arith
number-some says.LinkCell e = omega arith
number-some says.LinkOrder e = omega arith
number-some says.SheetCounts e = omega arith
number-some says.EntryBytes e = omega arith
number-some says.OtherKind e = omega arith
number-some says.ManySteps e = omega arith
number-some says.NotEarlier e = omega arith
number-some says.FirstEntry e = omega arith
number-some says.BodyBytes e = omega arith
number-some says.BoundAbove e = omega arith
number-some says.MapLength e = omega arith
number-some says.FewRoom e = omega arith
number-some says.FewScratch e = omega arith
number-some says.FewWords e = omega arith
number-some says.NoEntry e = omega arith
number-some says.NoPlace e = omega arith
number-some says.RowLength e = omega arith
number-some says.LongChain e = omega arith
number-some says.LongText e = omega arith
number-some says.TextRoom e = omega arith
number-some says.HiddenBeyond e = omega arith

-- what is judged by a number: without a refusal the value, else the refusal of that number
pub judged-ok : {A : Type 0} (n : ℕ) (a : A) → n ≡ 0 → judged n a ≡ Ok a
unfolding judged
judged-ok n a e = simp (eq-eqb n 0 e)

pub judged-err : {A : Type 0} (n : ℕ) (a : A) (r : Refusal) → number r ≡ n → judged n a ≡ Err r
unfolding judged
judged-err n a r e = rw (ne_eqb n 0 (λ z. number-some r (e ∙ z)), ← e, named-number r)

pub judged-some : {A : Type 0} (n : ℕ) (a : A) → (n ≡ 0 → ⊥) → judged n a ≡ Err (named n)
unfolding judged
judged-some n a f = simp (ne_eqb n 0 f)

-- `?` hands an error on as it is, and its refusal
pub passed_on : {A E : Type 0} (r : Result A E) (e : E) → IsErrAnd r (λ f. f ≡ e) → r ≡ Err e
passed_on (Ok a) e h = absurd h
passed_on (Err f) e h = ap Err h

pub refusal_passed : {A : Type 0} (r : Result A Refusal) (e : Refusal) → IsErrAnd r (λ f. f ≡ e) → refusal_in r ≡ number e
refusal_passed r e h = ap refusal_in (passed_on r e h)

-- what `map_err` makes of a result whose refusal is the number n, where its closure tells each refusal of the part p
module _ {A : Type 0} (p : Part) {Q : Refusal → Refused → Type 0} (tells : (e : Refusal) (f : Refused) → Q e f → f ≡ of_part p e) where
  told : (r : Result A Refusal) (t : Result A Refused) → MatchResult r (λ x. t ≡ Ok x) (λ e. IsErrAnd t (Q e)) → MatchResult r (λ x. t ≡ Ok x) (λ e. t ≡ Err (of_part p e))
  told (Ok x) t m = m
  told (Err e) (Ok y) m = absurd m
  told (Err e) (Err f) m = ap Err (tells e f m)

  module _ (r : Result A Refusal) (t : Result A Refused) (m : MatchResult r (λ x. t ≡ Ok x) (λ e. IsErrAnd t (Q e))) (n : ℕ) (d : refusal_in r ≡ n) where
    -- an error is the refusal of that number, of the part
    pub told-err : (f : Refused) → t ≡ Err f → (f ≡ of_part p (named n)) × (n ≡ 0 → ⊥)
    told-err f e = go r (told r t m) d
      where
        go : (r : Result A Refusal) → MatchResult r (λ x. t ≡ Ok x) (λ e. t ≡ Err (of_part p e)) → refusal_in r ≡ n → (f ≡ of_part p (named n)) × (n ≡ 0 → ⊥)
        go (Ok x) k d = cc
        go (Err g) k d =
            let same : f ≡ of_part p g = cc in
            (same ∙ rw (← d, named-number g), λ z. number-some g (d ∙ z))

    -- and a value is the result's, where there is no refusal
    pub told-ok : (x : A) → t ≡ Ok x → (r ≡ Ok x) × (n ≡ 0)
    told-ok x e = go r (told r t m) d
      where
        go : (r : Result A Refusal) → MatchResult r (λ x. t ≡ Ok x) (λ e. t ≡ Err (of_part p e)) → refusal_in r ≡ n → (r ≡ Ok x) × (n ≡ 0)
        go (Ok y) k d = let same : y ≡ x = cc in (ap Ok same, sym d)
        go (Err g) k d = cc
