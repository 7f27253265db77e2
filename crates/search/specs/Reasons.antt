-- What the search for a reason answers, in the theory's terms.
use Rattle.std.specs.Prelude.{cond, ◌≡◌, List, ℕ, ◌≤◌, ◌<◌, eqb, length, get_or, take, Option, Some, None}
use Rattle.theory.specs.Graph.{Comparison, same, differ, Graph, WellFormed}
use Rattle.theory.specs.Path.{Path, out}
use Rattle.theory.specs.Bisimulation.{Relation}
use Rattle.theory.specs.Parting.{Reason as Cause, by_link, by_paths}
use Rattle.theory.specs.Choosing.{Choice, none, some, Symmetric, chosen}
use Rattle.words.specs.Words.{bit}
use Rattle.search_links.specs.Hops.{View, hop_at, hops_of, Ordered}
use Rattle.search_links.specs.Sets.{row_at, Valued}
use Rattle.search_steps.specs.Paths.{path_of}
use Rattle.search_pairs.specs.declared.Route.{Route}
use Rattle.sheet.specs.Entry.{kind_number}
use Rattle.search.specs.declared.Reason.{Reason}

-- The number of a comparison in a table of rows.
abbrev pub number_of : Comparison → ℕ
number_of same = 0
number_of differ = 1

-- The lists show the graph: its hops by number, and the rows of the nodes that pass each comparison.
pub record Drawn (g : Graph) (v : View) (ends : List ℕ) : Type 0 where
  pub formed : WellFormed g
  pub small : g.size ≤ 64
  pub hops : (x : ℕ) → x < 64 → out g.links x ≡ hops_of v x
  pub rows : (t : Comparison) (x y : ℕ) → x < g.size → y < g.size → bit (row_at ends (number_of t) x) y ≡ g.ends t x y
  pub symmetric : Symmetric g

-- The lists show the graph, and can be gone through: the links out of each cell lie side by side, in the order of their labels, and comparisons go by a value.
pub record Charted (g : Graph) (v : View) (ends : List ℕ) : Type 0 where
  pub drawn : Drawn g v ends
  pub ordered : Ordered v
  pub valued : Valued ends

-- The lists and rows show two graphs and a relation, and (a, b) is a pair of their nodes.
pub record Posed (l r : Graph) (z : Relation) (v u : View) (rows ea eb : List ℕ) (a b : ℕ) : Type 0 where
  pub left : Drawn l v ea
  pub right : Drawn r u eb
  pub related : (x y : ℕ) → x < l.size → y < r.size → bit (get_or rows x 0) y ≡ z x y
  pub here : a < l.size
  pub there : b < r.size

-- The theory's path.
abbrev pub path_in : View → Route → Path
path_in v w = path_of v (take w.len w.links)

-- The theory's reason: by its kind, a link, or a comparison and two paths.
unfoldable pub reason_of : View → Reason → Cause
reason_of v s =
    cond (eqb (kind_number s.kind) 4) (by_link (hop_at v (get_or s.first.links 0 0)))
    (by_paths (cond (eqb (kind_number s.kind) 5) same differ) (path_in v s.first) (path_in v s.second))

-- At most c links, each one that there is.
pub record Numbered (to : List ℕ) (c : ℕ) (w : Route) : Type 0 where
  pub short : w.len ≤ c
  pub links : length w.links ≡ 4
  pub below : (i : ℕ) → i < w.len → get_or w.links i 0 < 512
  pub low : (i : ℕ) → i < w.len → get_or to (get_or w.links i 0) 0 < 64

-- The theory's choice: a reason, or none.
unfoldable pub choice_of : View → Option Reason → Choice
choice_of v None = none
choice_of v (Some s) = some (reason_of v s)

-- What the search answers for the pair (a, b): how its numbers lie, and that, of any graphs and any relation that the lists show, it is what the
-- theory chooses.
pub record Answered (v u : View) (rows ea eb : List ℕ) (a b c : ℕ) (o : Option Reason) : Type 0 where
  pub known : (s : Reason) → o ≡ Some s → (4 ≤ kind_number s.kind) × (kind_number s.kind ≤ 6)
  pub one : (s : Reason) → o ≡ Some s → kind_number s.kind ≡ 4 → Numbered v.to 1 s.first × (s.first.len ≡ 1) × (s.second.len ≡ 0)
  pub two : (s : Reason) → o ≡ Some s → 5 ≤ kind_number s.kind → Numbered v.to c s.first × Numbered v.to c s.second
  pub is : (l r : Graph) (z : Relation) → Posed l r z v u rows ea eb a b → choice_of v o ≡ chosen l r c z a b
