-- Paths laid end to end, and paths followed from related nodes.
use Rattle.std.specs.Prelude.{true, ◌≡◌, ℕ, ◌<◌}
use mathlib.Core.List.{[], ◌∷◌, ◌++◌}
use Rattle.std.proofs.Math.Path.{refl}
use Rattle.theory.proofs.TestLaws.{facts}
use Rattle.theory.specs.Graph.{Graph}
use Rattle.theory.specs.Path.{Path, Walk, end}
use Rattle.theory.specs.Bisimulation.{Relation}
use Rattle.theory.specs.Rounds.{follow}

pub end-append : (x : ℕ) (p q : Path) → end x (p ++ q) ≡ end (end x p) q
unfolding end
end-append x [] q = refl
end-append x (h ∷ p) q = end-append h.to p q

pub walk_append : (g : Graph) (x : ℕ) (p q : Path) → Walk g x p → Walk g (end x p) q → Walk g x (p ++ q)
unfolding Walk end
walk_append g x [] q u v = v
walk_append g x (h ∷ p) q u v = (u.0, walk_append g h.to p q u.1 v)

module _ (r : Graph) (z : Relation) where
  -- what follows p and then q follows p as far as some node
  pub follow_split : (p q : Path) (b y : ℕ) → follow r z (p ++ q) b y ≡ true
      → (m : ℕ) × (follow r z p b m ≡ true) × (follow r z q m y ≡ true)
  unfolding follow
  follow_split [] q b y s = (b, simp facts refl, s)
  follow_split (h ∷ p) q b y s =
      let (b', i, (j, s')) = simp facts at s in
      let (m, u, v) = follow_split p q b' y s' in
      (m, simp facts (b', i, (j, u)), v)

  -- and what follows p to a node and q from there follows both
  pub follow_join : (p q : Path) (b m y : ℕ) → follow r z p b m ≡ true → follow r z q m y ≡ true → follow r z (p ++ q) b y ≡ true
  unfolding follow
  follow_join [] q b m y u v = rw (simp facts at u) v
  follow_join (h ∷ p) q b m y u v =
      let (b', i, (j, u')) = simp facts at u in
      simp facts (b', i, (j, follow_join p q b' m y u' v))

  -- what follows a path from a node is a node
  pub follow-below : (p : Path) (b y : ℕ) → b < r.size → follow r z p b y ≡ true → y < r.size
  unfolding follow
  follow-below [] b y o h = rw (simp facts at h) at o
  follow-below (k ∷ p) b y o h = let (b', o', (j, t)) = simp facts at h in follow-below p b' y o' t

  -- the ends are related too
  pub follow-end : (p : Path) (a b y : ℕ) → z a b ≡ true → follow r z p b y ≡ true → z (end a p) y ≡ true
  unfolding follow end
  follow-end [] a b y i s = rw (simp facts at s) at i
  follow-end (h ∷ p) a b y i s =
      let (b', l, (j, s')) = simp facts at s in follow-end p h.to b' y j.1 s'
