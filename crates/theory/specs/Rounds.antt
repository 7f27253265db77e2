-- The greatest, computed: start from all pairs of nodes, and keep in each round those whose clauses hold under the relation before.
use Rattle.std.specs.Prelude.{Bool, true, false, not, ◌&&◌, ◌||◌, List, [], ◌∷◌, ℕ, zero, suc, ◌*◌, eqb, get_or}
use Rattle.theory.specs.Search.{any, every, list}
use Rattle.theory.specs.Graph.{Comparison, comparisons, Graph, linked}
use Rattle.theory.specs.Path.{Path, end, out, paths}
use Rattle.theory.specs.Bisimulation.{Relation, flip, Sides, one_sided, two_sided}

-- y is the end of a path of r from b that is alike to p
unfoldable pub follow : Graph → Relation → Path → ℕ → ℕ → Bool
follow r z [] b y = eqb b y
follow r z (h ∷ p) b y = any r.size (λ b'. (linked r b h.label b' && z h.to b') && follow r z p b' y)

-- p and q have a counterpart from b for the comparison t
unfoldable pub met : Graph → Relation → ℕ → Comparison → Path → Path → Bool
met r z b t p q = any r.size (λ y. follow r z p b y && any r.size (λ y'. follow r z q b y' && r.ends t y y'))

-- the clause for two paths
unfoldable pub two_paths : Graph → Graph → ℕ → Relation → ℕ → ℕ → Bool
two_paths l r c z a b =
    every (paths c l a) (λ p. every (paths c l a) (λ q.
    every comparisons (λ t. not (l.ends t (end a p) (end a q)) || met r z b t p q)))

-- the clause for one link
unfoldable pub one_link : Graph → Graph → Relation → ℕ → ℕ → Bool
one_link l r z a b = every (out l.links a) (λ h. any r.size (λ b'. linked r b h.label b' && z h.to b'))

-- the clauses for (a, b) from left to right
unfoldable pub zigs : Graph → Graph → ℕ → Relation → ℕ → ℕ → Bool
zigs l r c z a b = one_link l r z a b && two_paths l r c z a b

-- the clauses from right to left, where that side counts
unfoldable pub zags : Sides → Graph → Graph → ℕ → Relation → ℕ → ℕ → Bool
zags one_sided l r c z a b = true
zags two_sided l r c z a b = zigs r l c (flip z) b a

-- A relation as a table: a row for each number below the left size, a place in it for each below the right one.
abbrev pub Table : Type 0
Table = List (List Bool)

-- What a table relates.
abbrev pub related : Table → Relation
related t a b = get_or (get_or t a []) b false

-- The table of a relation between the numbers below n and those below m.
unfoldable pub table : ℕ → ℕ → Relation → Table
table n m z = list n (λ a. list m (λ b. z a b))

-- One round of refinement.
unfoldable pub round : Sides → Graph → Graph → ℕ → Table → Table
round s l r c t =
    table l.size r.size
    (λ a b. related t a b && (zigs l r c (related t) a b && zags s l r c (related t) a b))

-- The table after k rounds.
unfoldable pub rounds : Sides → Graph → Graph → ℕ → ℕ → Table
rounds s l r c zero = table l.size r.size (λ a b. l.shown a && r.shown b)
rounds s l r c (suc k) = round s l r c (rounds s l r c k)

-- The relation after k rounds.
abbrev pub after : Sides → Graph → Graph → ℕ → ℕ → Relation
after s l r c k = related (rounds s l r c k)

-- The table after as many rounds as it has places: no round changes it further.
unfoldable pub settled : Sides → Graph → Graph → ℕ → Table
settled s l r c = rounds s l r c (l.size * r.size)

-- 01: matched are the pairs that the greatest bisimulation holds, the others are parted.
abbrev pub matched : Graph → Graph → ℕ → Relation
matched l r c = related (settled two_sided l r c)
