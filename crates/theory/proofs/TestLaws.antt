-- What a Boolean test says: one law for each of the connectives and searches, in both directions.
use Rattle.std.specs.Prelude.{Bool, true, false, not, ◌&&◌, ◌||◌, ◌≡◌, ◌↔◌, ◌⊎◌, eqb, ltb, length, get_or}
use Rattle.std.proofs.Math.Bool.{So}
use Rattle.std.proofs.lemmas.Bool.{false≢true}
use Rattle.std.proofs.Math.Path.{refl, ap, ap₂}
use Rattle.std.proofs.Common.{sym, ◌∙◌, inl, inr, arith, not-suc-le-zero, eq-or-lt_of_le, le_of_suc-le-suc, eqb-true, eq-eqb, ltb-true, lt-ltb}
use Rattle.std.proofs.Math.Logic.{⊎_elim}
use mathlib.Core.List.Memᴰ
use mathlib.Core.List.{List, [], ◌∷◌, Memᴰ, ◌++◌}
use Prim.Native.Nat.{ℕ, zero, suc, ◌≤◌, ◌<◌, suc-le-suc}
use Rattle.std.proofs.Math.Decide.{dec_le}
use Rattle.theory.specs.Search.{any, every, list}

module _ {A : Type 0} where
  -- a passed test that is not passed
  pub never : So false → A
  never e = absurd (false≢true e)

pub le-or-lt : (m n : ℕ) → (m ≤ n) ⊎ (n < m)
le-or-lt m n = elim (dec_le m n) [ yes h ↦ inl h | no h ↦ inr (omega arith) ]

pub eqb_iff : (m n : ℕ) → So (eqb m n) ↔ (m ≡ n)
eqb_iff m n = (eqb-true m n, eq-eqb m n)

pub ltb_iff : (m n : ℕ) → So (ltb m n) ↔ (m < n)
ltb_iff m n = (ltb-true m n, lt-ltb m n)

pub and_iff : (a b : Bool) → So (a && b) ↔ (So a × So b)
and_iff true b = (λ e. (refl, e), λ h. h.1)
and_iff false b = (never, λ h. h.0)

pub or_iff : (a b : Bool) → So (a || b) ↔ (So a ⊎ So b)
or_iff true b = (λ e. inl refl, λ h. refl)
or_iff false b = (inr, ⊎_elim never (λ e. e))

pub if_iff : (a b : Bool) → So (not a || b) ↔ (So a → So b)
if_iff true b = (λ e h. e, λ f. f refl)
if_iff false b = (λ e. never, λ f. refl)

pub not_iff : (a : Bool) → So (not a) ↔ (So a → ⊥)
not_iff true = (λ e h. never e, λ f. absurd (f refl))
not_iff false = (λ e h. never h, λ f. refl)

-- where each side may be replaced, for `simp`
pub sum_iff : {A B C D : Type 0} → A ↔ C → B ↔ D → (A ⊎ B) ↔ (C ⊎ D)
sum_iff f g = (⊎_elim (λ a. inl (f.0 a)) (λ b. inr (g.0 b)), ⊎_elim (λ c. inl (f.1 c)) (λ d. inr (g.1 d)))

pub any_iff : (n : ℕ) (p : ℕ → Bool) → So (any n p) ↔ ((i : ℕ) × (i < n) × So (p i))
unfolding any
any_iff zero p = (never, λ h. absurd (not-suc-le-zero h.1))
any_iff (suc n) p =
    simp (or_iff, sum_iff, any_iff n p) (
      ⊎_elim (λ e. (n, omega arith, e)) (λ t. (t.0, omega arith, t.2)),
      λ t. ⊎_elim (λ q. inl (rw (← q) t.2)) (λ k. inr (t.0, k, t.2)) (eq-or-lt_of_le (le_of_suc-le-suc t.1)),
    )

pub any_ext : (n : ℕ) (p q : ℕ → Bool) → ((i : ℕ) → i < n → p i ≡ q i) → any n p ≡ any n q
unfolding any
any_ext zero p q f = refl
any_ext (suc n) p q f = ap₂ ◌||◌ (f n (omega arith)) (any_ext n p q (λ i l. f i (omega arith)))

module _ {A : Type 0} where
  pub cons_iff : (a b : A) (l : List A) → Memᴰ a (b ∷ l) ↔ ((a ≡ b) ⊎ Memᴰ a l)
  cons_iff a b l = (Memᴰ.cases_cons, ⊎_elim Memᴰ.head Memᴰ.tail)

  pub append_iff : (a : A) (s t : List A) → Memᴰ a (s ++ t) ↔ (Memᴰ a s ⊎ Memᴰ a t)
  append_iff a s t = (Memᴰ.append_cases s, ⊎_elim (Memᴰ.append_left t) (Memᴰ.append_right s))

  pub every_iff : (xs : List A) (p : A → Bool) → So (every xs p) ↔ ((x : A) → Memᴰ x xs → So (p x))
  unfolding every
  every_iff [] p = (λ e x m. absurd (Memᴰ.not-nil m), λ f. refl)
  every_iff (y ∷ ys) p =
      simp (and_iff, every_iff ys p) (
        λ (e, f) x m. ⊎_elim (λ q. rw q e) (f x) (Memᴰ.cases_cons m),
        λ f. (f y (Memᴰ.head refl), λ x m. f x (Memᴰ.tail m)),
      )

  -- the elements of a list that is given by a function
  pub list_at : (n : ℕ) (f : ℕ → A) (i : ℕ) (d : A) → i < n → get_or (list n f) i d ≡ f i
  unfolding list
  list_at zero f i d h = absurd (not-suc-le-zero h)
  list_at (suc n) f zero d h = refl
  list_at (suc n) f (suc i) d h = list_at n (λ j. f (suc j)) i d (le_of_suc-le-suc h)

  pub length-list : (n : ℕ) (f : ℕ → A) → length (list n f) ≡ n
  unfolding list
  length-list zero f = refl
  length-list (suc n) f = ap suc (length-list n (λ i. f (suc i)))

  pub list_past : (n : ℕ) (f : ℕ → A) (i : ℕ) (d : A) → n ≤ i → get_or (list n f) i d ≡ d
  unfolding list
  list_past zero f i d h = refl
  list_past (suc n) f zero d h = absurd (not-suc-le-zero h)
  list_past (suc n) f (suc i) d h = list_past n (λ j. f (suc j)) i d (le_of_suc-le-suc h)

  pub list_ext : (n : ℕ) (f g : ℕ → A) → ((i : ℕ) → i < n → f i ≡ g i) → list n f ≡ list n g
  unfolding list
  list_ext zero f g h = refl
  list_ext (suc n) f g h = ap₂ ◌∷◌ (h 0 (omega arith)) (list_ext n (λ j. f (suc j)) (λ j. g (suc j)) (λ i k. h (suc i) (suc-le-suc k)))

-- Two tests are equal where each passes if the other does.
pub test_eq : (a b : Bool) → (So a → So b) → (So b → So a) → a ≡ b
test_eq true b f g = sym (f refl)
test_eq false true f g = g refl
test_eq false false f g = refl

pub eqb_turn : (m n : ℕ) → eqb m n ≡ eqb n m
eqb_turn m n = test_eq _ _ (λ e. eq-eqb n m (sym (eqb-true m n e))) (λ e. eq-eqb m n (sym (eqb-true n m e)))

-- A test fails where it would make one pass that fails.
pub test_fails : (a b : Bool) → (So a → So b) → b ≡ false → a ≡ false
test_fails true b f e = sym (f refl) ∙ e
test_fails false b f e = refl

-- What a failed test says.
pub and_fails : (a b : Bool) → (a && b) ≡ false → (a ≡ false) ⊎ (b ≡ false)
and_fails true b e = inr e
and_fails false b e = inl refl

pub if_fails : (a b : Bool) → (not a || b) ≡ false → So a × (b ≡ false)
if_fails true b e = (refl, e)
if_fails false b e = absurd (false≢true (sym e))

pub every_fails : {A : Type 0} (xs : List A) (p : A → Bool) → every xs p ≡ false → (x : A) × Memᴰ x xs × (p x ≡ false)
unfolding every
every_fails [] p e = absurd (false≢true (sym e))
every_fails (y ∷ ys) p e =
    ⊎_elim (λ h. (y, Memᴰ.head refl, h)) (λ h. let t = every_fails ys p h in (t.0, Memᴰ.tail t.1, t.2)) (and_fails (p y) _ e)

-- From a test that passes to what it says, and back.
pub ruleset facts = (any_iff, and_iff, or_iff, eqb_iff)
