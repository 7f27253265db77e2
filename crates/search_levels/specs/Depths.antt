-- The tips of the paths of at most so many links, level by level in one table, each level without what the table covers already.
use Rattle.std.specs.Prelude.{Bool, true, false, ◌≡◌, ◌⊎◌, List, ℕ, ◌+◌, ◌-◌, ◌^◌, ◌≤◌, ◌<◌, length, get_or, replicate}
use Rattle.search_links.specs.Hops.{View}
use Rattle.search_links.specs.Sets.{Valued, StandsIn, seen_as}
use Rattle.search_tables.specs.declared.Grown.{Grown}
use Rattle.search_tables.specs.Tips.{Has, Covered, TableRoom, Untouched}
use Rattle.search_steps.specs.Paths.{Trail, end_of, ends_over}
use Rattle.search_pairs.specs.Pairs.{Clear}
use Rattle.search_cover.specs.Covering.{NoneFails}
use Rattle.search_levels.specs.declared.Levels.{Levels}

-- ---- paths from the tips of a table
-- A class from `first` on has the tip (a, o).
pub record HasFrom (l r : List ℕ) (first m a o : ℕ) : Type 0 where
  pub has : Has l r m a o
  pub least : first ≤ has.class

-- A path of d links from a tip of the table has the tip (a, o), as it is or widened, or one for which that stands in.
pub record Came (v u : View) (z ea eb : List ℕ) (wide : Bool) (l r : List ℕ) (m d a o : ℕ) : Type 0 where
  pub cell : ℕ
  pub word : ℕ
  pub path : List ℕ
  pub has : Has l r m cell word
  pub trail : Trail v cell path
  pub long : length path ≡ d
  pub end : StandsIn ea wide (end_of v cell path) a
  pub seen : seen_as eb wide (ends_over v u z word path) ≡ o

-- The table has nothing but what it had and such tips of paths of d links from those of another, as they are or widened, these from class `base` on. It
-- covers what it had, and unless it was full, all tips of paths of d links from the other's classes from `first` on.
pub record Gathered (v u : View) (z ea eb : List ℕ) (wide : Bool) (l r : List ℕ) (first m d : ℕ) (ls rs : List ℕ) (base n : ℕ) (ls' rs' : List ℕ) (g : Grown) : Type 0 where
  pub room : TableRoom ls' rs' g.count
  pub low : Untouched base ls rs ls' rs'
  pub least : base ≤ g.count
  pub sound : (a o : ℕ) → Has ls' rs' g.count a o → Has ls rs n a o ⊎ Came v u z ea eb wide l r m d a o
  pub kept : (a o : ℕ) → Has ls rs n a o → Covered ls' rs' g.count a o
  pub whole : g.full ≡ false → (a o : ℕ) (s : List ℕ) → HasFrom l r first m a o → Trail v a s → length s ≡ d
      → Covered ls' rs' g.count (end_of v a s) (seen_as eb wide (ends_over v u z o s))

-- ---- levels
-- How many classes the levels up to level k have.
abbrev pub end_at : Levels → ℕ → ℕ
end_at t k = get_or t.ends k 0

-- The numbers of a table with its levels: those up to `exact` have their tips as they are, those beyond, up to `known`, widened.
pub record Laid (ls rs : List ℕ) (t : Levels) : Type 0 where
  pub long : length t.ends ≡ 5
  pub order : t.exact ≤ t.known
  pub few : t.known ≤ 4
  pub rising : (k : ℕ) → k ≤ t.known → end_at t k ≤ end_at t t.known
  pub room : TableRoom ls rs (end_at t t.known)

-- A path of at most k links from x has the tip (a, o), as it is or, if `loose`, widened, or one for which that stands in.
pub record Tip (v u : View) (z ea eb : List ℕ) (x y : ℕ) (loose : Bool) (k a o : ℕ) : Type 0 where
  pub path : List ℕ
  pub trail : Trail v x path
  pub long : length path ≤ k
  pub wide : Bool
  pub only : wide ≡ true → loose ≡ true
  pub end : StandsIn ea wide (end_of v x path) a
  pub seen : seen_as eb wide (ends_over v u z (2 ^ y) path) ≡ o

-- The table covers the tip (a, w), as it is or, if `loose`, widened.
pub record Cover (eb : List ℕ) (loose : Bool) (ls rs : List ℕ) (n a w : ℕ) : Type 0 where
  pub wide : Bool
  pub only : wide ≡ true → loose ≡ true
  pub covered : Covered ls rs n a (seen_as eb wide w)

-- The first n classes have nothing but tips of paths of at most k links from x, and cover the tips of all of them.
pub record Level (v u : View) (z ea eb : List ℕ) (x y : ℕ) (loose : Bool) (k : ℕ) (ls rs : List ℕ) (n : ℕ) : Type 0 where
  pub sound : (a o : ℕ) → Has ls rs n a o → Tip v u z ea eb x y loose k a o
  pub whole : (p : List ℕ) → Trail v x p → length p ≤ k → Cover eb loose ls rs n (end_of v x p) (ends_over v u z (2 ^ y) p)

-- Each level is so; none of them fails, if it is said so.
pub record Standing (v u : View) (z ea eb : List ℕ) (x y c : ℕ) (ls rs : List ℕ) (t : Levels) : Type 0 where
  pub exact : (k : ℕ) → k ≤ t.exact → Level v u z ea eb x y false k ls rs (end_at t k)
  pub each : (k : ℕ) → k ≤ t.known → Level v u z ea eb x y true k ls rs (end_at t k)
  pub none : t.none ≡ true → NoneFails v u z ea eb x y c

-- A table with its levels has become another: of whatever nodes it stood, it still does.
pub record Became (v u : View) (z ea eb : List ℕ) (ls rs : List ℕ) (t : Levels) (ls' rs' : List ℕ) (t' : Levels) : Type 0 where
  pub laid : Laid ls' rs' t'
  pub onward : t.known ≤ t'.known
  pub told : t'.none ≡ t.none
  pub still : (x y c : ℕ) → Standing v u z ea eb x y c ls rs t → Standing v u z ea eb x y c ls' rs' t'

-- No two paths of less than s links in all fail, of at most c links each, the first no longer than the second.
pub record Settled (v u : View) (z ea eb : List ℕ) (x y c s : ℕ) : Type 0 where
  pub each : (k l : ℕ) → k ≤ l → l ≤ c → k + l < s → Clear v u z ea eb x y k l

-- The first class of the last level that has its tips as they are.
pub record FirstOf (t : Levels) (r : ℕ) : Type 0 where
  pub none : t.exact ≡ 0 → r ≡ 0
  pub some : (t.exact ≡ 0 → ⊥) → r ≡ end_at t (t.exact - 1)

-- The levels are the same, and say that no two paths of at most c links fail only if that is so, of whatever nodes they are.
pub record Judged (ea eb : List ℕ) (c : ℕ) (ls rs : List ℕ) (t t' : Levels) : Type 0 where
  pub laid : Laid ls rs t'
  pub still : (v u : View) (z : List ℕ) (x y : ℕ) → Valued eb → Standing v u z ea eb x y c ls rs t → Standing v u z ea eb x y c ls rs t'

-- The same levels, which say that no two paths fail.
unfoldable pub silenced : Levels → Levels
silenced t = record { ends = t.ends; known = t.known; exact = t.exact; none = true }

-- The levels of the table with one tip: level 0.
unfoldable pub only_first : Levels
only_first = record { ends = replicate 5 1; known = 0; exact = 0; none = false }
