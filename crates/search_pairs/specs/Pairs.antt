-- Two paths without counterpart, over the words that the search computes.
use Rattle.std.specs.Prelude.{Bool, cond, not, ◌&&◌, ◌||◌, ◌⊎◌, ◌≡◌, List, [], ◌∷◌, ℕ, ◌^◌, ◌≤◌, ◌<◌, eqb, length, get_or, take, replicate, Option, Some, None}
use Rattle.std.specs.Int.Bits.{bit_and}
use Rattle.words.specs.Words.{bit}
use Rattle.search_links.specs.Hops.{View, Ordered}
use Rattle.search_links.specs.Sets.{spread, row_at, Valued}
use Rattle.search_steps.specs.Paths.{Trail, end_of, ends_over}
use Rattle.search_pairs.specs.declared.Wanted.{Wanted}
use Rattle.search_pairs.specs.declared.Route.{Route}
use Rattle.search_pairs.specs.declared.pair.Pair.{Pair}
use Rattle.sheet.specs.Entry.{kind_number}
use Rattle.sheet.specs.declared.Kind.{Kind}

-- The kind of entry by which two paths fail (01: kind 5 same, 6 differ), and 0 where they do not.
unfoldable pub kind_of : Bool → Bool → ℕ
kind_of same differ = cond same 5 (cond differ 6 0)

-- Two paths with the tips (x, w) and (y, o): their ends pass comparison t, and no two of those alike to them do.
unfoldable pub failing : List ℕ → List ℕ → ℕ → ℕ → ℕ → ℕ → ℕ → Bool
failing ea eb t x w y o = bit (row_at ea t x) y && eqb (bit_and o (spread (row_at eb t) w)) 0

-- The kind by which two paths with these tips fail.
unfoldable pub fault : List ℕ → List ℕ → ℕ → ℕ → ℕ → ℕ → ℕ
fault ea eb x w y o = kind_of (failing ea eb 0 x w y o) (failing ea eb 1 x w y o)

-- The paths p and q from x pass comparison t, and no two from y that are alike to them do.
unfoldable pub alone : View → View → List ℕ → List ℕ → List ℕ → ℕ → ℕ → ℕ → List ℕ → List ℕ → Bool
alone v u z ea eb x y t p q = failing ea eb t (end_of v x p) (ends_over v u z (2 ^ y) p) (end_of v x q) (ends_over v u z (2 ^ y) q)

-- The kind by which they fail.
unfoldable pub failure : View → View → List ℕ → List ℕ → List ℕ → ℕ → ℕ → List ℕ → List ℕ → ℕ
failure v u z ea eb x y p q = kind_of (alone v u z ea eb x y 0 p q) (alone v u z ea eb x y 1 p q)

-- What a class with the ends l and the set r asks for comparison t.
unfoldable pub wanted_of : List ℕ → List ℕ → ℕ → ℕ → ℕ → Wanted
wanted_of ea eb t l r = record { ends = spread (row_at ea t) l; answers = spread (row_at eb t) r }

-- Some path of a class with the ends l and the set r has no counterpart.
unfoldable pub missing : Wanted → ℕ → ℕ → Bool
missing n l r = not (eqb (bit_and n.ends l) 0) && eqb (bit_and r n.answers) 0

-- Some path of the class has none by same or by differ.
unfoldable pub unmet : Wanted → Wanted → ℕ → ℕ → Bool
unmet same differ l r = missing same l r || missing differ l r

-- Some paths of class p of one table and of class q of another fail.
abbrev pub clashing : List ℕ → List ℕ → List ℕ → List ℕ → List ℕ → List ℕ → ℕ → ℕ → Bool
clashing ea eb pl pr ql qr p q =
    unmet (wanted_of ea eb 0 (get_or pl p 0) (get_or pr p 0)) (wanted_of ea eb 1 (get_or pl p 0) (get_or pr p 0)) (get_or ql q 0) (get_or qr q 0)

-- The links of a route.
abbrev pub links_in : Route → List ℕ
links_in w = take w.len w.links

-- The route is of d links.
pub record Shaped (d : ℕ) (w : Route) : Type 0 where
  pub long : w.len ≡ d
  pub room : length w.links ≡ 4

-- Two paths and the kind by which they fail; 0 where there are none.
pub record Couple : Type 0 where
  pub kind : ℕ
  pub first : Route
  pub second : Route

-- The number of a kind, and 0 where there is none.
abbrev pub kind_in : Option Kind → ℕ
kind_in None = 0
kind_in (Some k) = kind_number k

-- The two paths that there are, or that there are none.
abbrev pub couple : Option Pair → Couple
couple None = record { kind = 0; first = record { len = 0; links = replicate 4 0 }; second = record { len = 0; links = replicate 4 0 } }
couple (Some p) = record { kind = kind_number p.kind; first = p.first; second = p.second }

-- The path p comes before q, of as many links, in the order of the links.
unfoldable pub Before : List ℕ → List ℕ → Type 0
Before [] q = ⊥
Before (k ∷ p) [] = ⊥
Before (k ∷ p) (l ∷ q) = (k < l) ⊎ ((k ≡ l) × Before p q)

-- No two paths of i and j links fail.
pub record Clear (v u : View) (z ea eb : List ℕ) (x y i j : ℕ) : Type 0 where
  pub each : (p q : List ℕ) → Trail v x p → length p ≡ i → Trail v x q → length q ≡ j → failure v u z ea eb x y p q ≡ 0

-- The two paths are of i and j links, and fail by their kind; none with a first path before theirs do, nor with theirs and a second before.
pub record Shown (v u : View) (z ea eb : List ℕ) (x y i j : ℕ) (r : Couple) : Type 0 where
  pub first : Shaped i r.first × Trail v x (links_in r.first)
  pub second : Shaped j r.second × Trail v x (links_in r.second)
  pub fails : r.kind ≡ failure v u z ea eb x y (links_in r.first) (links_in r.second)
  pub sooner : (p q : List ℕ) → Trail v x p → length p ≡ i → Before p (links_in r.first) → Trail v x q → length q ≡ j → failure v u z ea eb x y p q ≡ 0
  pub next : (q : List ℕ) → Trail v x q → length q ≡ j → Before q (links_in r.second) → failure v u z ea eb x y (links_in r.first) q ≡ 0

-- The first two paths of i and j links that fail, or that there are none.
pub record Sought (v u : View) (z ea eb : List ℕ) (x y i j : ℕ) (r : Couple) : Type 0 where
  pub found : (r.kind ≡ 0 → ⊥) → Shown v u z ea eb x y i j r
  pub none : r.kind ≡ 0 → Clear v u z ea eb x y i j

-- What the search asks of two books' lists, nodes of theirs, and lengths.
pub record Asked (v u : View) (ea eb : List ℕ) (x y i j : ℕ) : Type 0 where
  pub left : Ordered v
  pub right : Ordered u
  pub own : Valued ea
  pub other : Valued eb
  pub cell : x < 64
  pub partner : y < 64
  pub first : i ≤ 4
  pub second : j ≤ 4
