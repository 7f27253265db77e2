-- Laws of the lines of a listing.
use Rattle.std.specs.Prelude.{Bool, true, false, not, ◌≡◌}
use mathlib.Core.List.{◌++◌}
use Rattle.std.proofs.Math.Path.{refl, ap₂}
use Rattle.std.proofs.Common.{sym, ap, suc-mul, arith}
use Prim.Native.Nat.{ℕ, zero, suc, ◌+◌, ◌*◌, ◌<◌}
use Rattle.theory.specs.Bisimulation.{Relation}
use Rattle.words.specs.Words.{digit, tally, word_of}
use Rattle.words.specs.Laws.{tally_ext, word_of_ext}
use Rattle.listing_lines.specs.Lines.{head_line, row_line, total_line, row_lines, pairs_in, pair_lines}

-- ---- relations that agree on n left and m right cells

module _ (m : ℕ) (z y : Relation) where
  row_ext : (i : ℕ) → ((j : ℕ) → j < m → z i j ≡ y i j) → row_line i (tally m (z i)) (word_of m (z i)) ≡ row_line i (tally m (y i)) (word_of m (y i))
  row_ext i f = ap₂ (row_line i) (tally_ext m (z i) (y i) f) (word_of_ext m (z i) (y i) f)

  row_lines_ext : (n : ℕ) → ((i j : ℕ) → i < n → j < m → z i j ≡ y i j) → row_lines n m z ≡ row_lines n m y
  unfolding row_lines
  row_lines_ext zero f = refl
  row_lines_ext (suc n) f = ap₂ ◌++◌ (row_lines_ext n (λ i j h. f i j (omega arith))) (row_ext n (λ j. f n j (omega arith)))

pub pairs_in_ext : (m : ℕ) (z y : Relation) (n : ℕ) → ((i j : ℕ) → i < n → j < m → z i j ≡ y i j) → pairs_in n m z ≡ pairs_in n m y
unfolding pairs_in
pairs_in_ext m z y zero f = refl
pairs_in_ext m z y (suc n) f = ap₂ ◌+◌ (pairs_in_ext m z y n (λ i j h. f i j (omega arith))) (tally_ext m (z n) (y n) (λ j. f n j (omega arith)))

-- have one listing
pub pair_lines_ext : (n m c : ℕ) (z y : Relation) → ((i j : ℕ) → i < n → j < m → z i j ≡ y i j) → pair_lines n m c z ≡ pair_lines n m c y
unfolding pair_lines
pair_lines_ext n m c z y f =
    ap₂ (λ s t. head_line n m c ++ s ++ t) (row_lines_ext m z y n f)
    (ap₂ total_line (pairs_in_ext m z y n f) (pairs_in_ext m (λ i j. not (z i j)) (λ i j. not (y i j)) n (λ i j h l. ap not (f i j h l))))

-- ---- counts

tally-not : (n : ℕ) (p : ℕ → Bool) → tally n p + tally n (λ i. not (p i)) ≡ n
unfolding tally
tally-not zero p = refl
tally-not (suc n) p = omega (arith, tally-not n (λ i. p (suc i)), one (p 0))
  where
    one : (b : Bool) → digit b + digit (not b) ≡ 1
    one true = refl
    one false = refl

-- every pair is in z or not
pub pairs_in-not : (n m : ℕ) (z : Relation) → pairs_in n m z + pairs_in n m (λ i j. not (z i j)) ≡ n * m
unfolding pairs_in
pairs_in-not zero m z = sym (omega arith)
pairs_in-not (suc n) m z = omega (arith, pairs_in-not n m z, tally-not m (z n), suc-mul n m)
