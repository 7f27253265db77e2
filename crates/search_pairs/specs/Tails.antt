-- Paths from the tips of a table, and from one tip: what the search for two of them without counterpart answers.
use Rattle.std.specs.Prelude.{Bool, true, false, cond, ◌≡◌, List, ◌∷◌, ℕ, ◌+◌, ◌^◌, ◌≤◌, ◌<◌, length, replicate}
use Rattle.search_links.specs.Hops.{View, label_of, to_of, Ordered}
use Rattle.search_links.specs.Sets.{Valued}
use Rattle.search_steps.specs.Paths.{Leaves, Trail, end_of, step_word, ends_over}
use Rattle.search_tables.specs.Tips.{Has}
use Rattle.search_pairs.specs.declared.Route.{Route}
use Rattle.search_pairs.specs.declared.Tail.{Tail}
use Rattle.search_pairs.specs.Pairs.{links_in, Shaped, fault, failure, Before}

-- The path with no links.
abbrev pub no_links : Route
no_links = record { len = 0; links = replicate 4 0 }

-- The path r is s with link k before it.
pub record Prepended (k : ℕ) (s r : Route) : Type 0 where
  pub long : r.len ≡ s.len + 1
  pub room : length r.links ≡ 4
  pub path : length s.links ≡ 4 → links_in r ≡ k ∷ links_in s

-- Two tips that fail, one of each table.
pub record Clash (ea eb pl pr : List ℕ) (pn : ℕ) (ql qr : List ℕ) (qn : ℕ) : Type 0 where
  pub cell : ℕ
  pub word : ℕ
  pub cell' : ℕ
  pub word' : ℕ
  pub first : Has pl pr pn cell word
  pub second : Has ql qr qn cell' word'
  pub fails : fault ea eb cell word cell' word' ≡ 0 → ⊥

-- There are two, or there are none.
pub record Met (ea eb pl pr : List ℕ) (pn : ℕ) (ql qr : List ℕ) (qn : ℕ) (f : Bool) : Type 0 where
  pub some : f ≡ true → Clash ea eb pl pr pn ql qr qn
  pub none : f ≡ false → (x w y o : ℕ) → Has pl pr pn x w → Has ql qr qn y o → fault ea eb x w y o ≡ 0

-- The path s of d links is one from a tip (x, w) of the table.
pub record Runs (v : View) (ls rs : List ℕ) (n d x w : ℕ) (s : List ℕ) : Type 0 where
  pub has : Has ls rs n x w
  pub trail : Trail v x s
  pub long : length s ≡ d

-- The kind by which the tips (x, w) and (y, o) fail, the second of them taken for the first where they are turned.
unfoldable pub fault_of : List ℕ → List ℕ → Bool → ℕ → ℕ → ℕ → ℕ → ℕ
fault_of ea eb turned x w y o = cond turned (fault ea eb y o x w) (fault ea eb x w y o)

-- The tip (x, w) fails with that of a path of j links from a tip of the table.
pub record Hit (v u : View) (z ea eb : List ℕ) (turned : Bool) (ql qr : List ℕ) (qn j x w : ℕ) : Type 0 where
  pub cell : ℕ
  pub word : ℕ
  pub path : List ℕ
  pub runs : Runs v ql qr qn j cell word path
  pub fails : fault_of ea eb turned x w (end_of v cell path) (ends_over v u z word path) ≡ 0 → ⊥

-- It fails with none.
pub record Safe (v u : View) (z ea eb : List ℕ) (turned : Bool) (ql qr : List ℕ) (qn j x w : ℕ) : Type 0 where
  pub each : (y o : ℕ) (q : List ℕ) → Runs v ql qr qn j y o q → fault_of ea eb turned x w (end_of v y q) (ends_over v u z o q) ≡ 0

-- A path of i links from a tip of the table whose tip fails so.
pub record Hitting (v u : View) (z ea eb : List ℕ) (turned : Bool) (pl pr : List ℕ) (pn i : ℕ) (ql qr : List ℕ) (qn j : ℕ) : Type 0 where
  pub cell : ℕ
  pub word : ℕ
  pub path : List ℕ
  pub runs : Runs v pl pr pn i cell word path
  pub hit : Hit v u z ea eb turned ql qr qn j (end_of v cell path) (ends_over v u z word path)

-- There are two paths that fail, of i links from a tip of one table and of j links from a tip of another, or there are none.
pub record Searched (v u : View) (z ea eb : List ℕ) (turned : Bool) (pl pr : List ℕ) (pn i : ℕ) (ql qr : List ℕ) (qn j : ℕ) (f : Bool) : Type 0 where
  pub some : f ≡ true → Hitting v u z ea eb turned pl pr pn i ql qr qn j
  pub none : f ≡ false → (x w : ℕ) (p : List ℕ) → Runs v pl pr pn i x w p → Safe v u z ea eb turned ql qr qn j (end_of v x p) (ends_over v u z w p)

-- What the search asks: two books' lists, and tables that have room.
pub record Seeking (v u : View) (ea eb : List ℕ) (pn qn : ℕ) : Type 0 where
  pub left : Ordered v
  pub right : Ordered u
  pub own : Valued ea
  pub other : Valued eb
  pub firsts : pn ≤ 64
  pub seconds : qn ≤ 64

-- ---- from one tip (x, w)
-- Some path of d links leads to a tip that fails with that of a path of j links from a tip of the table.
pub record Ahead (v u : View) (z ea eb : List ℕ) (turned : Bool) (x w d : ℕ) (ql qr : List ℕ) (qn j : ℕ) : Type 0 where
  pub path : List ℕ
  pub trail : Trail v x path
  pub long : length path ≡ d
  pub hit : Hit v u z ea eb turned ql qr qn j (end_of v x path) (ends_over v u z w path)

-- None does.
pub record Barren (v u : View) (z ea eb : List ℕ) (turned : Bool) (x w d : ℕ) (ql qr : List ℕ) (qn j : ℕ) : Type 0 where
  pub each : (p : List ℕ) → Trail v x p → length p ≡ d → Safe v u z ea eb turned ql qr qn j (end_of v x p) (ends_over v u z w p)

-- The one or the other.
pub record Told (v u : View) (z ea eb : List ℕ) (turned : Bool) (x w d : ℕ) (ql qr : List ℕ) (qn j : ℕ) (f : Bool) : Type 0 where
  pub some : f ≡ true → Ahead v u z ea eb turned x w d ql qr qn j
  pub none : f ≡ false → Barren v u z ea eb turned x w d ql qr qn j

-- The first link from which such a path goes on, by d links.
pub record Next (v u : View) (z ea eb : List ℕ) (turned : Bool) (x w d : ℕ) (ql qr : List ℕ) (qn j k : ℕ) : Type 0 where
  pub leaves : Leaves v x k
  pub ahead : Ahead v u z ea eb turned (to_of v k) (step_word u z w (label_of v k) (to_of v k)) d ql qr qn j
  pub before : (i : ℕ) → Leaves v x i → i < k → Barren v u z ea eb turned (to_of v i) (step_word u z w (label_of v i) (to_of v i)) d ql qr qn j

-- The first such path, and its tip.
pub record Foremost (v u : View) (z ea eb : List ℕ) (turned : Bool) (x w d : ℕ) (ql qr : List ℕ) (qn j : ℕ) (r : Tail) : Type 0 where
  pub shaped : Shaped d r.path
  pub trail : Trail v x (links_in r.path)
  pub cell : r.cell ≡ end_of v x (links_in r.path)
  pub word : r.word ≡ ends_over v u z w (links_in r.path)
  pub low : r.cell < 64
  pub hit : Hit v u z ea eb turned ql qr qn j r.cell r.word
  pub before : (p : List ℕ) → Trail v x p → length p ≡ d → Before p (links_in r.path)
      → Safe v u z ea eb turned ql qr qn j (end_of v x p) (ends_over v u z w p)

-- ---- from the tip (x, {y})
-- The paths of `rest` links from the tips of a table stand for the second paths of j links: a first path of i links fails with one of the ones exactly where
-- it fails with one of the others.
pub record StandsFor (v u : View) (z ea eb : List ℕ) (x y i j : ℕ) (ql qr : List ℕ) (qn rest : ℕ) : Type 0 where
  pub some : (p : List ℕ) → Trail v x p → length p ≡ i → Hit v u z ea eb false ql qr qn rest (end_of v x p) (ends_over v u z (2 ^ y) p)
      → (q : List ℕ) × Trail v x q × (length q ≡ j) × (failure v u z ea eb x y p q ≡ 0 → ⊥)
  pub none : (p : List ℕ) → Trail v x p → length p ≡ i → Safe v u z ea eb false ql qr qn rest (end_of v x p) (ends_over v u z (2 ^ y) p)
      → (q : List ℕ) → Trail v x q → length q ≡ j → failure v u z ea eb x y p q ≡ 0
