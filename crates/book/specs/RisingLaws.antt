-- Links in the order of triples: such lists with the same links are equal.
use Rattle.std.specs.Prelude.{◌≡◌, refl, ℕ, zero, suc, ◌<◌}
use Rattle.std.proofs.Common.{sym, ap₂, ◌∙◌, inl, inr, ⊎_elim, suc-le-suc, le_of_suc-le-suc, arith}
use mathlib.Core.List.Memᴰ
use mathlib.Core.List.{List, [], ◌∷◌, Memᴰ}
use Rattle.theory.specs.Search.{list}
use Rattle.theory.specs.Graph.{Link}
use Rattle.book.specs.AcceptedLaws.{Precedes, precedes_trans}

-- Each link comes before all later ones.
unfoldable pub Rising : List Link → Type 0
Rising [] = Unit {0}
Rising (k ∷ ks) = ((j : Link) → Memᴰ j ks → Precedes k j) × Rising ks

-- no link comes before itself
itself : (k : Link) → Precedes k k → ⊥
itself k (inl h) = omega arith
itself k (inr (_, inl h)) = omega arith
itself k (inr (_, inr (_, h))) = omega arith

-- rising lists with the same links are equal
pub rising_eq : (ks ls : List Link) → Rising ks → Rising ls → ((k : Link) → Memᴰ k ks → Memᴰ k ls)
    → ((k : Link) → Memᴰ k ls → Memᴰ k ks) → ks ≡ ls
unfolding Rising
rising_eq [] [] p q f g = refl
rising_eq [] (l ∷ ls) p q f g = absurd (Memᴰ.not-nil (g l (Memᴰ.head refl)))
rising_eq (k ∷ ks) [] p q f g = absurd (Memᴰ.not-nil (f k (Memᴰ.head refl)))
rising_eq (k ∷ ks) (l ∷ ls) p q f g =
    ap₂ ◌∷◌ same
    (rising_eq ks ls p.1 q.1
    (λ j m. later k ks p.0 j m l ls same (f j (Memᴰ.tail m)))
    (λ j m. later l ls q.0 j m k ks (rw same) (g j (Memᴰ.tail m))))
  where
    same : k ≡ l
    same =
        ⊎_elim (λ e. e)
        (λ m. ⊎_elim (λ e. rw e) (λ n. absurd (itself k (precedes_trans k l k (p.0 l n) (q.0 k m)))) (Memᴰ.cases_cons (g l (Memᴰ.head refl))))
        (Memᴰ.cases_cons (f k (Memᴰ.head refl)))

    -- a later link is not the first one
    later : (a : Link) (xs : List Link) → ((j : Link) → Memᴰ j xs → Precedes a j) → (j : Link) → Memᴰ j xs
        → (b : Link) (ys : List Link) → a ≡ b → Memᴰ j (b ∷ ys) → Memᴰ j ys
    later a xs r j m b ys e n = ⊎_elim (λ d. let same : j ≡ a = d ∙ sym e in absurd (itself a (rw same at (r j m)))) (λ o. o) (Memᴰ.cases_cons n)

-- ---- a list that is given by a function
pub member_list : (n : ℕ) (f : ℕ → Link) (k : Link) → Memᴰ k (list n f) → (i : ℕ) × (i < n) × (k ≡ f i)
unfolding list
member_list zero f k m = absurd (Memᴰ.not-nil m)
member_list (suc n) f k m =
    ⊎_elim (λ e. (0, omega arith, e)) (λ o. let (i, h, e) = member_list n (λ i. f (suc i)) k o in (suc i, suc-le-suc h, e)) (Memᴰ.cases_cons m)

pub list_member : (n : ℕ) (f : ℕ → Link) (i : ℕ) → i < n → Memᴰ (f i) (list n f)
unfolding list
list_member zero f i h = absurd (omega arith)
list_member (suc n) f zero h = Memᴰ.head refl
list_member (suc n) f (suc i) h = Memᴰ.tail (list_member n (λ i. f (suc i)) i (le_of_suc-le-suc h))

-- rises where the function does
pub rising_list : (n : ℕ) (f : ℕ → Link) → ((j k : ℕ) → j < k → k < n → Precedes (f j) (f k)) → Rising (list n f)
unfolding Rising list
rising_list zero f h = tt
rising_list (suc n) f h = (
  λ k m. let (i, l, e) = member_list n (λ i. f (suc i)) k m in rw e (h 0 (suc i) (omega arith) (suc-le-suc l)),
  rising_list n (λ i. f (suc i)) (λ j k l m. h (suc j) (suc k) (suc-le-suc l) (suc-le-suc m)),
)

-- and only there
pub rising_at : (n : ℕ) (f : ℕ → Link) → Rising (list n f) → (j k : ℕ) → j < k → k < n → Precedes (f j) (f k)
unfolding Rising list
rising_at zero f r j k l h = absurd (omega arith)
rising_at (suc n) f r j zero l h = absurd (omega arith)
rising_at (suc n) f r zero (suc k) l h = r.0 (f (suc k)) (list_member n (λ i. f (suc i)) k (le_of_suc-le-suc h))
rising_at (suc n) f r (suc j) (suc k) l h = rising_at n (λ i. f (suc i)) r.1 j k (le_of_suc-le-suc l) (le_of_suc-le-suc h)
