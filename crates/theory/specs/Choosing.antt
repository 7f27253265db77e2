-- The reason to part two nodes that plain nested loops come to first: links in their order, then two paths, those with fewest links in all first, of
-- these those with the shorter first path, then in the order of the links; same before differ. So it is a function of the graphs, the bound, the
-- relation and the nodes, whatever way a search goes.
use Rattle.std.specs.Prelude.{Bool, true, false, not, ◌&&◌, List, [], ◌∷◌, ◌≡◌, ℕ, zero, suc, ◌+◌, ◌-◌, ◌/◌}
use Rattle.theory.specs.Search.{any, list}
use Rattle.theory.specs.Graph.{Comparison, comparisons, Graph, linked}
use Rattle.theory.specs.Path.{Path, end, out, onward}
use Rattle.theory.specs.Bisimulation.{Relation}
use Rattle.theory.specs.Rounds.{met}
use Rattle.theory.specs.Parting.{Reason, by_link, by_paths}

-- A reason, or none.
pub data Choice : Type 0 where
  none : Choice
  some : Reason → Choice

-- The first, or else the second.
unfoldable pub or_else : Choice → Choice → Choice
or_else none d = d
or_else (some w) d = some w

-- The reason, where the test passes.
unfoldable pub when : Bool → Reason → Choice
when true w = some w
when false w = none

module _ {A : Type 0} where
  -- What the first element of the list gives that gives something.
  unfoldable pub first_in : List A → (A → Choice) → Choice
  first_in [] f = none
  first_in (x ∷ xs) f = or_else (f x) (first_in xs f)

-- The paths of k links from x, in the order of the links.
unfoldable pub paths_of : ℕ → Graph → ℕ → List Path
paths_of zero g x = [] ∷ []
paths_of (suc k) g x = onward (λ y. paths_of k g y) (out g.links x)

-- The first link out of a without counterpart.
unfoldable pub link_choice : Graph → Graph → Relation → ℕ → ℕ → Choice
link_choice l r z a b = first_in (out l.links a) (λ h. when (not (any r.size (λ b'. linked r b h.label b' && z h.to b'))) (by_link h))

-- The first comparison by which two paths from a are without counterpart.
unfoldable pub pair_choice : Graph → Graph → Relation → ℕ → ℕ → Path → Path → Choice
pair_choice l r z a b p q = first_in comparisons (λ t. when (l.ends t (end a p) (end a q) && not (met r z b t p q)) (by_paths t p q))

-- The first two paths of i and j links from a without counterpart.
unfoldable pub lengths_choice : Graph → Graph → Relation → ℕ → ℕ → ℕ → ℕ → Choice
lengths_choice l r z a b i j = first_in (paths_of i l a) (λ p. first_in (paths_of j l a) (λ q. pair_choice l r z a b p q))

-- The lengths of a first path, where two paths have s links in all, the first no more than the second, and neither more than c.
abbrev pub lengths : ℕ → ℕ → List ℕ
lengths c s = list (suc (s / 2) - (s - c)) (λ i. s - c + i)

-- The first two paths of s links in all.
unfoldable pub total_choice : Graph → Graph → ℕ → Relation → ℕ → ℕ → ℕ → Choice
total_choice l r c z a b s = first_in (lengths c s) (λ i. lengths_choice l r z a b i (s - i))

-- The first two paths of at most c links each.
unfoldable pub paths_choice : Graph → Graph → ℕ → Relation → ℕ → ℕ → Choice
paths_choice l r c z a b = first_in (list (suc (c + c)) (λ s. s)) (total_choice l r c z a b)

-- The reason to part a and b: a link, or else two paths.
unfoldable pub chosen : Graph → Graph → ℕ → Relation → ℕ → ℕ → Choice
chosen l r c z a b = or_else (link_choice l r z a b) (paths_choice l r c z a b)

-- A comparison says the same of two nodes in either order.
abbrev pub Symmetric : Graph → Type 0
Symmetric g = (t : Comparison) (x y : ℕ) → g.ends t x y ≡ true → g.ends t y x ≡ true
