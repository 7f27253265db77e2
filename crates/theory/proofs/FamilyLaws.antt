-- Descending families of relations: the clauses of each one's pairs hold under the one before. The rounds are one, and so is a (bi)simulation, held constant.
use Rattle.std.specs.Prelude.{true, ◌≡◌, refl, ℕ, zero, suc, ◌≤◌}
use Rattle.std.proofs.Common.{⊎_elim, arith}
use Rattle.std.proofs.Math.Nat.{le-suc_iff}
use Rattle.theory.specs.Graph.{Graph, Node, WellFormed}
use Rattle.theory.specs.Bisimulation.{Relation, flip, pairs, Zig, Sides, two_sided, Sided}
use Rattle.theory.specs.Rounds.{after}
use Rattle.theory.proofs.GreatestLaws.{sided_iff, next_iff, descends, after_inside}

-- Such a family, with the clauses of one side or of both.
pub record Family (s : Sides) (l r : Graph) (c : ℕ) (z : ℕ → Relation) : Type 0 where
  pub left : (k a b : ℕ) → z k a b ≡ true → Node l a
  pub right : (k a b : ℕ) → z k a b ≡ true → Node r b
  pub down : (k a b : ℕ) → z (suc k) a b ≡ true → z k a b ≡ true
  pub zig : (k a b : ℕ) → z (suc k) a b ≡ true → Zig l r c (pairs (z k)) a b
  pub zag : s ≡ two_sided → (k a b : ℕ) → z (suc k) a b ≡ true → Zig r l c (pairs (flip (z k))) b a

-- a two-sided family from the other side
pub turn : {l r : Graph} {c : ℕ} {z : ℕ → Relation} → Family two_sided l r c z → Family two_sided r l c (λ k. flip (z k))
turn f = record {
  left = λ k a b. f.right k b a;
  right = λ k a b. f.left k b a;
  down = λ k a b. f.down k b a;
  zig = λ k a b. f.zag refl k b a;
  zag = λ _ k a b. f.zig k b a;
}

-- a pair of one relation is one of every relation before
pub lower : {s : Sides} {l r : Graph} {c : ℕ} {z : ℕ → Relation} → Family s l r c z → (d k a b : ℕ) → d ≤ k → z k a b ≡ true → z d a b ≡ true
lower f d zero a b s h = rw (let e : d ≡ 0 = omega arith in e) h
lower f d (suc k) a b s h = ⊎_elim (λ s'. lower f d k a b s' (f.down k a b h)) (λ e. rw e h) (le-suc_iff.0 s)

-- a (bi)simulation, held constant
pub steady : (s : Sides) (l r : Graph) (c : ℕ) (z : Relation) → Sided s l r c (pairs z) → Family s l r c (λ k. z)
steady s l r c z m =
    let kept = (sided_iff s l r c (pairs z)).0 m in
    record {
      left = λ k a b e. (kept a b e).left;
      right = λ k a b e. (kept a b e).right;
      down = λ k a b e. e;
      zig = λ k a b e. (kept a b e).zig;
      zag = λ q k a b e. (kept a b e).zag q;
    }

-- the rounds
pub rounds_family : (s : Sides) {l r : Graph} (c : ℕ) → WellFormed l → WellFormed r → Family s l r c (after s l r c)
rounds_family s c wl wr = record {
  left = λ k a b e. (after_inside s c wl wr k a b e).0;
  right = λ k a b e. (after_inside s c wl wr k a b e).1;
  down = descends s c wl wr;
  zig = λ k a b e. ((next_iff s c wl wr k a b).0 e).zig;
  zag = λ q k a b e. ((next_iff s c wl wr k a b).0 e).zag q;
}
