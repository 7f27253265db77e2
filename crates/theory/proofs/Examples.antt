-- The examples P1 to P8 of 01, as rows of one table over the definitions.
use Rattle.std.specs.Prelude.{Bool, true, false, not, ◌&&◌, ◌≡◌, refl, ℕ, ◌*◌, ◌<◌, leb, ltb, get_or}
use Rattle.std.proofs.Common.{ap, ⊎_elim, arith, lt-ltb}
use mathlib.Core.List.Memᴰ
use mathlib.Core.List.{List, [], ◌∷◌, map, Memᴰ}
use Rattle.theory.specs.Search.{any, every, list}
use Rattle.theory.specs.Graph.{comparisons, differ, Link, link, Graph, compared, data_graph, WellFormed, Inside, has}
use Rattle.theory.specs.Expression.{NodeExpr, stay, step, compare}
use Rattle.theory.specs.Meaning.{reach, holds}
use Rattle.theory.specs.Bound.{len, ml, depth}
use Rattle.theory.specs.Path.{end, out, onward, paths}
use Rattle.theory.specs.Bisimulation.{two_sided, Greatest}
use Rattle.theory.specs.Rounds.{follow, met, two_paths, one_link, zigs, zags, Table, related, table, round, rounds, settled}
use Rattle.theory.proofs.WalkLaws.{has_inside, data_formed}
use Rattle.theory.proofs.GreatestLaws.{greatest}

-- A graph whose links stay among its nodes.
pub record Sound : Type 0 where
  pub graph : Graph
  pub fits : WellFormed graph

-- n nodes with the data values vs and the links ks
abbrev pub sound : (n : ℕ) → List ℕ → (ks : List Link) → Inside n ks → Sound
sound n vs ks h = record { graph = data_graph n ks (λ x. get_or vs x 0); fits = data_formed n ks _ h }

-- A's left book
unfoldable pub left_a : Sound
unfolding Inside
left_a = sound 3 (5 ∷ 5 ∷ 6 ∷ []) (link 0 1 1 ∷ link 0 1 2 ∷ []) (omega arith)

-- A's right book
unfoldable pub right_a : Sound
unfolding Inside
right_a = sound 2 (5 ∷ 5 ∷ []) (link 0 1 1 ∷ []) (omega arith)

-- A's left book with its last cell hidden
unfoldable pub hidden_a : Sound
unfolding Inside
hidden_a =
    record {
      graph = record { size = 3; shown = λ x. ltb x 2; links = ks; ends = compared (λ x. get_or (5 ∷ 5 ∷ 6 ∷ []) x 0) };
      fits = record {
        inside = omega arith;
        seen = λ x a y e. let (h, k) = has_inside 2 ks x a y (omega arith) e in (lt-ltb x 2 h, lt-ltb y 2 k);
      };
    }
  where
    ks : List Link
    ks = link 0 1 1 ∷ []

-- one cell with the recording v
unfoldable pub one : ℕ → Sound
unfolding Inside
one v = sound 1 (v ∷ []) [] tt

-- three cells in a chain, the last with the recording v
unfoldable pub chain : ℕ → Sound
unfolding Inside
chain v = sound 3 (5 ∷ 6 ∷ v ∷ []) (link 0 1 1 ∷ link 1 1 2 ∷ []) (omega arith)

-- one cell linked to itself
unfoldable pub loop : Sound
unfolding Inside
loop = sound 1 (5 ∷ []) (link 0 1 0 ∷ []) (omega arith)

-- two cells linked to each other, the second with the recording v
unfoldable pub two : ℕ → Sound
unfolding Inside
two v = sound 2 (5 ∷ v ∷ []) (link 0 1 1 ∷ link 1 1 0 ∷ []) (omega arith)

-- a cell with two followers of which one has a link to itself by label 2; the followers lead to x and to y
unfoldable pub fork : (x y : ℕ) → x < 5 → y < 5 → Sound
unfolding Inside
fork x y h k =
    sound 5 (5 ∷ 7 ∷ 7 ∷ 5 ∷ 6 ∷ []) (link 0 1 1 ∷ link 0 1 2 ∷ link 1 1 x ∷ link 2 1 y ∷ link 2 2 2 ∷ [])
    (omega arith)

-- An expression that is claimed to distinguish a left node from a right one: within the bound, no deeper than n × m, true at the left
-- node and false at the right one.
pub record Claim : Type 0 where
  pub expression : NodeExpr
  pub left : ℕ
  pub right : ℕ

-- What is claimed of two graphs at a bound: which pairs are matched, and what parts some of the others.
pub record Row : Type 0 where
  pub left : Sound
  pub right : Sound
  pub bound : ℕ
  pub pairs : Table
  pub claims : List Claim

-- A row, of its parts.
abbrev pub row : Sound → Sound → ℕ → Table → List Claim → Row
row l r c t qs = record { left = l; right = r; bound = c; pairs = t; claims = qs }

-- The table. The last two rows are none of 01's examples. In the first of them related ends would do, related cells at each place do not; in the second a
-- cell is hidden (02, 2026-07).
unfoldable pub rows : List Row
rows =
    -- P1, with "differ: stay, step 1", which parts (0,0)
    row left_a right_a 1 ((false ∷ false ∷ []) ∷ (false ∷ true ∷ []) ∷ (false ∷ true ∷ []) ∷ [])
    (record { expression = compare differ stay (step 1); left = 0; right = 0 } ∷ [])
    -- P2
    ∷ row left_a right_a 0 ((true ∷ false ∷ []) ∷ (false ∷ true ∷ []) ∷ (false ∷ true ∷ []) ∷ []) []
    -- P3, at bounds 0 to 4
    ∷ row (one 5) (one 9) 0 ((true ∷ []) ∷ []) []
    ∷ row (one 5) (one 9) 1 ((true ∷ []) ∷ []) []
    ∷ row (one 5) (one 9) 2 ((true ∷ []) ∷ []) []
    ∷ row (one 5) (one 9) 3 ((true ∷ []) ∷ []) []
    ∷ row (one 5) (one 9) 4 ((true ∷ []) ∷ []) []
    -- P4, P5
    ∷ row (chain 5) (chain 7) 1 ((true ∷ false ∷ false ∷ []) ∷ (false ∷ true ∷ false ∷ []) ∷ (false ∷ false ∷ true ∷ []) ∷ []) []
    ∷ row (chain 5) (chain 7) 2 ((false ∷ false ∷ false ∷ []) ∷ (false ∷ true ∷ false ∷ []) ∷ (false ∷ false ∷ true ∷ []) ∷ []) []
    -- P6, P7, P8
    ∷ row loop (two 5) 4 ((true ∷ true ∷ []) ∷ []) []
    ∷ row loop (two 6) 1 ((false ∷ false ∷ []) ∷ []) []
    ∷ row loop (two 6) 0 ((true ∷ true ∷ []) ∷ []) []
    -- the third slip
    ∷ row (fork 3 4 (omega arith) (omega arith)) (fork 4 3 (omega arith) (omega arith)) 2
    ((false ∷ false ∷ false ∷ false ∷ false ∷ []) ∷ (false ∷ true ∷ false ∷ false ∷ false ∷ []) ∷ (false ∷ false ∷ true ∷ false ∷ false ∷ [])
    ∷ (false ∷ false ∷ false ∷ true ∷ true ∷ []) ∷ (false ∷ false ∷ false ∷ true ∷ true ∷ []) ∷ []) []
    -- P1 without the cell that made the difference
    ∷ row hidden_a right_a 1 ((true ∷ false ∷ []) ∷ (false ∷ true ∷ []) ∷ (false ∷ false ∷ []) ∷ []) []
    ∷ []

-- The pairs of a row, and for each of its claims whether it holds.
pub record Outcome : Type 0 where
  pub pairs : Table
  pub claims : List Bool

-- Whether a claim holds of two graphs at a bound.
abbrev pub distinguishes : Graph → Graph → ℕ → Claim → Bool
distinguishes l r c q =
    leb (ml q.expression) c && (leb (depth q.expression) (l.size * r.size)
    && (holds l q.expression q.left && not (holds r q.expression q.right)))

-- As the definitions compute them.
abbrev pub computed : Row → Outcome
computed x = record {
  pairs = settled two_sided x.left.graph x.right.graph x.bound;
  claims = map (distinguishes x.left.graph x.right.graph x.bound) x.claims;
}

-- As the row has them.
abbrev pub claimed : Row → Outcome
claimed x = record { pairs = x.pairs; claims = map (λ q. true) x.claims }

-- Every row holds.
pub as_claimed : map computed rows ≡ map claimed rows
unfolding rows left_a hidden_a right_a one chain loop two fork settled rounds round table zigs zags one_link two_paths comparisons met follow any every list out has paths onward end compared reach holds len ml depth
as_claimed = refl

at_each : {A : Type 0} (f g : Row → A) (xs : List Row) → map f xs ≡ map g xs → (x : Row) → Memᴰ x xs → f x ≡ g x
at_each f g [] e x m = absurd (Memᴰ.not-nil m)
at_each f g (y ∷ ys) e x m = ⊎_elim (λ q. rw q (cc)) (at_each f g ys (cc) x) (Memᴰ.cases_cons m)

-- The pairs of every row are the greatest bisimulation of its graphs at its bound.
pub exact : (x : Row) → Memᴰ x rows → Greatest two_sided x.left.graph x.right.graph x.bound (related x.pairs)
exact x m =
    rw (← ap (λ (o : Outcome). o.pairs) (at_each computed claimed rows as_claimed x m))
    (greatest two_sided x.bound x.left.fits x.right.fits)
