-- The first of the theory's links and paths, by the numbers of the links.
use mathlib.Core.Path.{◌≡◌, refl, sym, ap, ◌∙◌}
use mathlib.Core.Logic.{inl, inr, ⊎_elim}
use mathlib.Core.List.{List, [], ◌∷◌}
use Prim.Native.Nat.{ℕ, zero, suc, ◌+◌, ◌≤◌, ◌<◌}
use native.Mathlib.Nat.{eq-or-lt_of_le}
use native.Mathlib.Omega.{arith}
use lib.ListN.{length}
use Rattle.theory.specs.Graph.{Graph}
use Rattle.theory.specs.Path.{Hop, Path}
use Rattle.theory.proofs.WalkLaws.{linked_inside}
use Rattle.theory.specs.Parting.{Reason as Cause}
use Rattle.theory.specs.Choosing.{Choice, none, some, or_else, first_in, paths_of}
use Rattle.theory.proofs.ChoosingLaws.{first_none, first-onward, paths_of_iff}
use Rattle.search_links.specs.Hops.{View, start_of, to_of, hop_at, hops_from}
use Rattle.search_steps.specs.Paths.{Leaves, Trail, path_of}
use Rattle.search_pairs.specs.Pairs.{Before}
use Rattle.search.specs.Reasons.{Drawn}
use Rattle.search.specs.BridgeLaws.{path_length, leaves_linked, walk_trail}

-- the first of some links
pub hops_first : (v : View) (f : Hop → Choice) (w : Cause) (k n m : ℕ) → k ≤ m → m < k + n → ((j : ℕ) → k ≤ j → j < m → f (hop_at v j) ≡ none)
    → f (hop_at v m) ≡ some w → first_in (hops_from v k n) f ≡ some w
unfolding first_in hops_from or_else
hops_first v f w k zero m l b h e = absurd (omega arith)
hops_first v f w k (suc n) m l b h e =
    ⊎_elim (λ q. ap (λ (c : Choice). or_else c (first_in (hops_from v (suc k) n) f)) (ap (λ (j : ℕ). f (hop_at v j)) q ∙ e)) (λ s. rw (h k (omega arith) s) (hops_first v f w (suc k) n m s (omega arith) (λ j i. h j (omega arith)) e)) (eq-or-lt_of_le l)

module _ (v : View) (g : Graph) (ends : List ℕ) (s : Drawn g v ends) where
  low : (x k : ℕ) → x < 64 → Leaves v x k → to_of v k < 64
  low x k l o = omega (arith, linked_inside s.formed x _ _ (leaves_linked v g ends s x k l o), s.small)

  -- no path of d links
  pub trails_none : (d x : ℕ) → x < 64 → (f : Path → Choice) → ((p : List ℕ) → Trail v x p → length p ≡ d → f (path_of v p) ≡ none)
      → first_in (paths_of d g x) f ≡ none
  trails_none d x l f h =
      (first_none f (paths_of d g x)).1
      (λ p m.
      let (w, e) = (paths_of_iff d g x p).0 m in
      let (q, t, dq) = walk_trail v g ends s x p l w in
      rw dq at (h q t (sym (path_length v q) ∙ ap length dq ∙ e)))

  -- the path p, where none before it counts
  pub trails_first : (p : List ℕ) (x : ℕ) → x < 64 → Trail v x p → (f : Path → Choice) (w : Cause) → f (path_of v p) ≡ some w
      → ((q : List ℕ) → Trail v x q → length q ≡ length p → Before q p → f (path_of v q) ≡ none) → first_in (paths_of (length p) g x) f ≡ some w
  unfolding Trail path_of paths_of first_in or_else Before
  trails_first [] x l t f w e h = rw e
  trails_first (k ∷ p) x l (o, t) f w e h =
      first-onward (λ y. paths_of (length p) g y) f _
      ∙ rw (s.hops x l)
      (hops_first v _ w (start_of v x) _ k o.from (omega (arith, o.until))
      (λ j m i.
      let a : Leaves v x j = record { from = m; until = omega (arith, o.until) } in
      trails_none (length p) (to_of v j) (low x j l a) (λ q. f (hop_at v j ∷ q)) (λ q u d. h (j ∷ q) (a, u) (ap suc d) (inl i)))
      (trails_first p (to_of v k) (low x k l o) t (λ q. f (hop_at v k ∷ q)) w e (λ q u d b. h (k ∷ q) (o, u) (ap suc d) (inr (refl, b)))))
