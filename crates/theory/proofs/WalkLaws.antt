-- The links, hops and paths that are listed are those that there are.
use Rattle.std.specs.Prelude.{Bool, true, false, cond, ◌&&◌, ◌||◌, ◌≡◌, refl, ◌↔◌, ℕ, zero, suc, ◌≤◌, ◌<◌, eqb, length}
use Rattle.std.proofs.Math.Bool.{So}
use Rattle.std.proofs.Common.{sym, ap₂, suc-le-suc, not-suc-le-zero, le_of_suc-le-suc, arith}
use Rattle.std.proofs.Math.Logic.{inl, inr, ⊎_elim}
use mathlib.Core.Logic.Iff
use mathlib.Core.List.Memᴰ
use mathlib.Core.List.{List, [], ◌∷◌, map, Memᴰ, cons-ne-nil}
use Rattle.theory.proofs.TestLaws.{never, eqb_iff, and_iff, or_iff, sum_iff, cons_iff, append_iff}
use Rattle.theory.specs.Graph.{Graph, Node, Link, link, data_graph, WellFormed, Inside, has, linked}
use Rattle.theory.specs.Path.{Hop, hop, Path, Walk, end, out, onward, paths}

link_iff : (k : Link) (x a y : ℕ) → So (eqb k.from x && (eqb k.label a && eqb k.to y)) ↔ (link x a y ≡ k)
link_iff k x a y = simp (and_iff, eqb_iff) (λ (p, (q, r)). rw (← p, ← q, ← r), λ e. ((cc), ((cc), (cc))))

-- a link that is found is one of the list
pub has_iff : (ks : List Link) (x a y : ℕ) → So (has ks x a y) ↔ Memᴰ (link x a y) ks
unfolding has
has_iff [] x a y = (never, λ m. absurd (Memᴰ.not-nil m))
has_iff (k ∷ ks) x a y = simp (or_iff, sum_iff, link_iff, has_iff ks, cons_iff) Iff.rfl

-- a link of a list that stays below n does
pub has_inside : (n : ℕ) (ks : List Link) (x a y : ℕ) → Inside n ks → So (has ks x a y) → (x < n) × (y < n)
unfolding Inside has
has_inside n [] x a y w e = never e
has_inside n (k ∷ ks) x a y (i, j, w) e =
    ⊎_elim (λ h. let q = (link_iff k x a y).0 h in
    let p : x ≡ k.from = cc in let r : y ≡ k.to = cc in (rw p i, rw r j))
    (has_inside n ks x a y w) ((or_iff _ _).0 e)

-- the data graph of 000 is as it asks, if its links stay below n
pub data_formed : (n : ℕ) (ks : List Link) (value : ℕ → ℕ) → Inside n ks → WellFormed (data_graph n ks value)
data_formed n ks value h = record { inside = h; seen = λ x a y e. (refl, refl) }

module _ {g : Graph} (w : WellFormed g) (x a y : ℕ) (e : So (linked g x a y)) where
  pub linked_inside : y < g.size
  linked_inside = (has_inside g.size g.links x a y w.inside e).1

  -- a link leads to a node
  pub linked_node : Node g y
  linked_node = record { below = linked_inside; seen = (w.seen x a y e).1 }

-- a path from a number below the size ends below it, and one from a node at a node
pub end_inside : {g : Graph} → WellFormed g → (x : ℕ) (p : Path) → x < g.size → Walk g x p → end x p < g.size
unfolding Walk end
end_inside w x [] h k = h
end_inside w x (s ∷ p) h k = end_inside w s.to p (linked_inside w x s.label s.to k.0) k.1

pub walk_node : {g : Graph} → WellFormed g → (x : ℕ) (p : Path) → Node g x → Walk g x p → Node g (end x p)
unfolding Walk end
walk_node w x [] h k = h
walk_node w x (s ∷ p) h k = walk_node w s.to p (linked_node w x s.label s.to k.0) k.1

-- the hops that are listed are the links out of x
pub out_iff : (ks : List Link) (x : ℕ) (h : Hop) → Memᴰ h (out ks x) ↔ So (has ks x h.label h.to)
unfolding out has
out_iff [] x h = (λ m. absurd (Memᴰ.not-nil m), never)
out_iff (k ∷ ks) x h = first (eqb k.from x) (out_iff ks x h)
  where
    hop_iff : So (eqb k.label h.label && eqb k.to h.to) ↔ (h ≡ hop k.label k.to)
    hop_iff = simp (and_iff, eqb_iff) (λ (p, q). ap₂ hop (sym p) (sym q), λ e. ((cc), (cc)))

    first : (b : Bool) → Memᴰ h (out ks x) ↔ So (has ks x h.label h.to)
        → Memᴰ h (cond b (hop k.label k.to ∷ out ks x) (out ks x))
        ↔ So ((b && (eqb k.label h.label && eqb k.to h.to)) || has ks x h.label h.to)
    first true f = simp (or_iff, sum_iff, hop_iff, ← f, cons_iff) Iff.rfl
    first false f = f

module _ (h : Hop) (q : Path) where
  onto_iff : (k : Hop) (ps : List Path) → Memᴰ (h ∷ q) (map (λ p. k ∷ p) ps) ↔ ((h ≡ k) × Memᴰ q ps)
  onto_iff k [] = (λ m. absurd (Memᴰ.not-nil m), λ t. absurd (Memᴰ.not-nil t.1))
  onto_iff k (p ∷ ps) =
      simp (cons_iff, sum_iff, onto_iff k ps)
      (⊎_elim (λ e. ((cc), inl (cc))) (λ t. (t.0, inr t.1)), λ t. ⊎_elim (λ e. inl (ap₂ ◌∷◌ t.0 e)) (λ m. inr (t.0, m)) t.1)

  pub onward_iff : (f : ℕ → List Path) (hs : List Hop) → Memᴰ (h ∷ q) (onward f hs) ↔ (Memᴰ h hs × Memᴰ q (f h.to))
  unfolding onward
  onward_iff f [] = (λ m. absurd (Memᴰ.not-nil m), λ t. absurd (Memᴰ.not-nil t.0))
  onward_iff f (k ∷ hs) =
      simp (append_iff, cons_iff, sum_iff, onto_iff, onward_iff f hs) (
        ⊎_elim (λ t. (inl t.0, rw t.0 t.1)) (λ t. (inr t.0, t.1)),
        λ t. ⊎_elim (λ e. inl (e, rw (← e) t.1)) (λ m. inr (m, t.1)) t.0,
      )

  -- a path with a first hop is not the empty one
  later_iff : (ps : List Path) → Memᴰ (h ∷ q) ([] ∷ ps) ↔ Memᴰ (h ∷ q) ps
  later_iff ps = (λ m. ⊎_elim (λ e. absurd (cons-ne-nil h q e)) (λ t. t) (Memᴰ.cases_cons m), Memᴰ.tail)

-- the paths that are listed are those of at most k links
pub paths_iff : (k : ℕ) (g : Graph) (x : ℕ) (p : Path) → Memᴰ p (paths k g x) ↔ (Walk g x p × (length p ≤ k))
unfolding paths Walk
paths_iff zero g x [] = (λ m. (tt, omega arith), λ t. Memᴰ.head refl)
paths_iff zero g x (h ∷ p) = simp later_iff (λ m. absurd (Memᴰ.not-nil m), λ t. absurd (not-suc-le-zero t.1))
paths_iff (suc k) g x [] = (λ m. (tt, omega arith), λ t. Memᴰ.head refl)
paths_iff (suc k) g x (h ∷ p) =
    simp (later_iff, onward_iff, paths_iff k g h.to p, out_iff)
    (λ (m, (w, i)). ((m, w), suc-le-suc i), λ ((m, w), i). (m, (w, le_of_suc-le-suc i)))
