-- A list that is written over from the front, element by element.
use Rattle.std.specs.Prelude.{◌≡◌, refl, List, [], ◌∷◌, ◌++◌, ℕ, zero, suc, ◌+◌, ◌≤◌, ◌<◌, length, get_or, set, drop}
use Rattle.std.proofs.Common.{ap, not-suc-le-zero, le_of_suc-le-suc, add-one}
use Rattle.theory.specs.Search.{list}

-- f 0, .., f (k - 1), and then ws from place k on
abbrev pub over : ℕ → (ℕ → ℕ) → List ℕ → List ℕ
over k f ws = list k f ++ drop k ws

-- as long as it was
pub over-length : (k : ℕ) (f : ℕ → ℕ) (ws : List ℕ) → k ≤ length ws → length (over k f ws) ≡ length ws
unfolding list
over-length zero f ws h = refl
over-length (suc k) f [] h = absurd (not-suc-le-zero h)
over-length (suc k) f (w ∷ ws) h = ap suc (over-length k (λ i. f (suc i)) ws (le_of_suc-le-suc h))

-- what is written
written_at : (k : ℕ) (f : ℕ → ℕ) (rest : List ℕ) (i : ℕ) → i < k → get_or (list k f ++ rest) i 0 ≡ f i
unfolding list
written_at zero f rest i h = absurd (not-suc-le-zero h)
written_at (suc k) f rest zero h = refl
written_at (suc k) f rest (suc i) h = written_at k (λ j. f (suc j)) rest i (le_of_suc-le-suc h)

pub over-at : (k : ℕ) (f : ℕ → ℕ) (ws : List ℕ) (i : ℕ) → i < k → get_or (over k f ws) i 0 ≡ f i
over-at k f ws i h = written_at k f (drop k ws) i h

-- the next element
over-suc : (k : ℕ) (f : ℕ → ℕ) (ws : List ℕ) → k < length ws → set (over k f ws) k (f k) ≡ over (suc k) f ws
unfolding list
over-suc zero f [] h = absurd (not-suc-le-zero h)
over-suc zero f (w ∷ ws) h = refl
over-suc (suc k) f [] h = absurd (not-suc-le-zero h)
over-suc (suc k) f (w ∷ ws) h = ap (λ l. f 0 ∷ l) (over-suc k (λ i. f (suc i)) ws (le_of_suc-le-suc h))

pub over-next : (k : ℕ) (f : ℕ → ℕ) (ws : List ℕ) → k < length ws → set (over k f ws) k (f k) ≡ over (k + 1) f ws
over-next k f ws h = rw (add-one k) (over-suc k f ws h)

-- what is written over again
drop-over : (q k : ℕ) (g : ℕ → ℕ) (ws : List ℕ) → k ≤ q → k ≤ length ws → drop q (over k g ws) ≡ drop q ws
unfolding list
drop-over q zero g ws h l = refl
drop-over zero (suc k) g ws h l = absurd (not-suc-le-zero h)
drop-over (suc q) (suc k) g [] h l = absurd (not-suc-le-zero l)
drop-over (suc q) (suc k) g (w ∷ ws) h l = drop-over q k (λ i. g (suc i)) ws (le_of_suc-le-suc h) (le_of_suc-le-suc l)

pub over-over : (q k : ℕ) (f g : ℕ → ℕ) (ws : List ℕ) → k ≤ q → k ≤ length ws → over q f (over k g ws) ≡ over q f ws
over-over q k f g ws h l = ap (λ r. list q f ++ r) (drop-over q k g ws h l)
