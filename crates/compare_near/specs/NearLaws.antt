-- Near a node that is not near a change, nothing changed.
use Rattle.std.specs.Prelude.{Bool, true, false, not, ◌≡◌, eqb, length, get_or}
use Rattle.std.proofs.lemmas.Bool.{false≢true}
use Rattle.std.proofs.Math.Bool.{So}
use mathlib.Core.List.{List, [], ◌∷◌}
use Rattle.std.proofs.Common.{inl, inr, sym, ap, ◌∙◌, not-suc-le-zero, le_of_suc-le-suc, arith, eqb-true}
use Rattle.std.proofs.Math.Path.{refl}
use Prim.Native.Nat.{ℕ, zero, suc, ◌≤◌, ◌<◌}
use Rattle.theory.specs.Bisimulation.{Relation}
use Rattle.theory.specs.Graph.{Graph}
use Rattle.theory.specs.Path.{Path, Walk, end}
use Rattle.theory.proofs.TestLaws.{or_iff}
use Rattle.theory.proofs.WalkLaws.{linked_inside, end_inside}
use Rattle.theory.proofs.GreatestLaws.{Near}
use Rattle.words.specs.Words.{bit}
use Rattle.words.specs.Laws.{bit-or, bit-word_of-lt}
use Rattle.search_links.specs.Hops.{View}
use Rattle.search_links.specs.Sets.{leads_to}
use Rattle.search_links.specs.Laws.{linked_leads}
use Rattle.search.specs.Reasons.{Drawn}
use Rattle.compare_map.specs.Relation.{Tells}
use Rattle.compare_near.specs.Near.{changed, behind, near_to, reach_of_lem}

-- the clauses for a bound go one link, and as many as the bound
pub reach_one : (c : ℕ) → 1 ≤ reach_of_lem c
unfolding reach_of_lem
reach_one zero = omega arith
reach_one (suc c) = omega arith

pub reach_all : (c : ℕ) → c ≤ reach_of_lem c
unfolding reach_of_lem
reach_all zero = omega arith
reach_all (suc c) = omega arith

module _ {g : Graph} {v : View} {ends : List ℕ} (drawn : Drawn g v ends) where
  abbrev nearby : ℕ → ℕ → ℕ
  nearby w d = near_to v.starts v.to g.size w d

  -- the nodes of w are near it
  near_own : (w d x : ℕ) → So (bit w x) → So (bit (nearby w d) x)
  unfolding near_to
  near_own w zero x e = e
  near_own w (suc d) x e = bit-or _ _ x ∙ (or_iff _ _).1 (inl (near_own w d x e))

  -- and so is a node that a path leads from to one of them
  near_path : (w d : ℕ) (p : Path) (a : ℕ) → length p ≤ d → Walk g a p → a < g.size → So (bit w (end a p)) → So (bit (nearby w d) a)
  unfolding near_to behind Walk end
  near_path w d [] a s k o e = near_own w d a e
  near_path w zero (h ∷ p) a s k o e = absurd (not-suc-le-zero s)
  near_path w (suc d) (h ∷ p) a s k o e =
      let i = near_path w d p h.to (le_of_suc-le-suc s) k.1 (linked_inside drawn.formed a h.label h.to k.0) e in
      let b : So (bit (behind v.starts v.to g.size (nearby w d)) a) =
      bit-word_of-lt g.size (leads_to v.starts v.to (nearby w d)) a o
      ∙ linked_leads g v (nearby w d) a h (drawn.hops a (omega (arith, drawn.small))) k.0 i in
      bit-or (nearby w d) (behind v.starts v.to g.size (nearby w d)) a ∙ (or_iff (bit (nearby w d) a) _).1 (inr b)

  -- a node whose row is another is one that changed, and so are those near it
  module _ (m : ℕ) (z z' : Relation) {before after : List ℕ} (t : Tells g.size m z before) (t' : Tells g.size m z' after) where
    pub near_same : (d a : ℕ) → a < g.size → bit (nearby (changed before after g.size) d) a ≡ false → (x y : ℕ) → Near g d a x → y < m → z x y ≡ z' x y
    unfolding changed
    near_same d a o far x y n u = by (eqb (get_or before x 0) (get_or after x 0)) refl
      where
        inside : x < g.size
        inside = rw (← n.last) (end_inside drawn.formed a n.path o n.walk)

        by : (b : Bool) → eqb (get_or before x 0) (get_or after x 0) ≡ b → z x y ≡ z' x y
        by true e = sym (t.bits x y inside u) ∙ ap (λ (w : ℕ). bit w y) (eqb-true _ _ e) ∙ t'.bits x y inside u
        by false e =
            absurd (false≢true (sym far ∙ near_path _ d n.path a n.short n.walk o
            (rw n.last (bit-word_of-lt g.size (λ i. not (eqb (get_or before i 0) (get_or after i 0))) x inside ∙ ap not e))))
