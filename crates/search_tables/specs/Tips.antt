-- Tables of tips. Of a path only its tip counts further on: the node where it ends, and the set of the ends of the paths of the other graph that
-- are alike to it. A class is a set of tips with one such set; a table is n classes in two lists of words: the nodes of class e, and its set.
use Rattle.std.specs.Prelude.{Bool, true, false, ◌⊎◌, ◌≡◌, List, Option, Some, None, ℕ, ◌+◌, ◌≤◌, ◌<◌, length, get_or}
use Rattle.std.proofs.Math.Bool.{So}
use Rattle.std.specs.Int.Bits.{bit_and}
use Rattle.words.specs.Words.{bit, Inside}
use Rattle.search_links.specs.Sets.{StandsIn, seen_as}
use Rattle.search_tables.specs.declared.Grown.{Grown}

-- The table has the tip (x, w).
pub record Has (ls rs : List ℕ) (n x w : ℕ) : Type 0 where
  pub class : ℕ
  pub below : class < n
  pub cell : x < 64
  pub inside : So (bit (get_or ls class 0) x)
  pub word : get_or rs class 0 ≡ w

-- The table covers the tip (x, w): it has a tip of that node with a set inside of w.
pub record Covered (ls rs : List ℕ) (n x w : ℕ) : Type 0 where
  pub word : ℕ
  pub has : Has ls rs n x word
  pub inside : Inside word w

-- Two lists have room for a table.
pub record TableRoom (ls rs : List ℕ) (n : ℕ) : Type 0 where
  pub left : length ls ≡ 64
  pub right : length rs ≡ 64
  pub few : n ≤ 64

-- The first `base` classes are as they were.
pub record Untouched (base : ℕ) (ls rs ls' rs' : List ℕ) : Type 0 where
  pub left : (e : ℕ) → e < base → get_or ls' e 0 ≡ get_or ls e 0
  pub right : (e : ℕ) → e < base → get_or rs' e 0 ≡ get_or rs e 0

-- The nodes of a set with a row.
pub record Rowmates (z : List ℕ) (cells row r : ℕ) : Type 0 where
  pub sound : (x : ℕ) → So (bit r x) → So (bit cells x) × (get_or z x 0 ≡ row)
  pub whole : (x : ℕ) → x < 64 → So (bit cells x) → get_or z x 0 ≡ row → So (bit r x)

-- Of a set, nodes such that the table covers the tips of the others.
pub record Rest (ls rs : List ℕ) (n cells w r : ℕ) : Type 0 where
  pub part : (x : ℕ) → So (bit r x) → So (bit cells x)
  pub others : (x : ℕ) → x < 64 → So (bit cells x) → So (bit r x) ⊎ Covered ls rs n x w

-- One of n classes from `base` on that has the set w or no nodes, or n.
pub record ClassPlace (ls rs : List ℕ) (base n w e : ℕ) : Type 0 where
  pub least : base ≤ e
  pub most : e ≤ n
  pub there : e < n → (get_or rs e 0 ≡ w) ⊎ (get_or ls e 0 ≡ 0)

-- The table has what it had, and the tips of the nodes with the set w; it may have one class more.
pub record Joined (ls rs : List ℕ) (base n cells w : ℕ) (ls' rs' : List ℕ) (n' : ℕ) : Type 0 where
  pub room : TableRoom ls' rs' n'
  pub low : Untouched base ls rs ls' rs'
  pub least : base ≤ n'
  pub few : n' ≤ n + 1
  pub sound : (y o : ℕ) → Has ls' rs' n' y o → Has ls rs n y o ⊎ (So (bit cells y) × (o ≡ w))
  pub kept : (y o : ℕ) → Has ls rs n y o → Has ls' rs' n' y o
  pub new : (y : ℕ) → y < 64 → So (bit cells y) → Has ls' rs' n' y w

-- Some of the tips of the nodes were taken out of the classes from `base` on, all with sets wider than w.
pub record Narrowed (ls rs : List ℕ) (base n cells w : ℕ) (ls' : List ℕ) : Type 0 where
  pub room : TableRoom ls' rs n
  pub low : Untouched base ls rs ls' rs
  pub sound : (y o : ℕ) → Has ls' rs n y o → Has ls rs n y o
  pub kept : (y o : ℕ) → Has ls rs n y o → Has ls' rs n y o ⊎ (So (bit cells y) × Inside w o × (o ≡ w → ⊥))

-- How many classes a table of n classes has after a set was put in, and that it was not full; where it was, it has what it had.
abbrev pub put_as : ℕ → Option ℕ → Grown
put_as n (Some count) = record { count = count; full = false }
put_as n None = record { count = n; full = true }

-- The table has nothing but what it had and tips of the nodes, or of nodes that stand in for them, with the set w, these from class `base` on. It covers
-- what it had, and unless it was full, the tips of all the nodes.
pub record Put (own : List ℕ) (wide : Bool) (ls rs : List ℕ) (base n cells w : ℕ) (ls' rs' : List ℕ) (g : Grown) : Type 0 where
  pub room : TableRoom ls' rs' g.count
  pub low : Untouched base ls rs ls' rs'
  pub least : base ≤ g.count
  pub few : g.count ≤ n + 1
  pub full : g.full ≡ true → (n ≡ 64) × (g.count ≡ n)
  pub sound : (y o : ℕ) → Has ls' rs' g.count y o → Has ls rs n y o ⊎ ((x : ℕ) × So (bit cells x) × StandsIn own wide x y × (o ≡ w))
  pub kept : (y o : ℕ) → Has ls rs n y o → Covered ls' rs' g.count y o
  pub new : g.full ≡ false → (y : ℕ) → y < 64 → So (bit cells y) → Covered ls' rs' g.count y w

-- The set of the tip of node y: s cut with row y, as it is or widened.
abbrev pub cut_as : List ℕ → Bool → List ℕ → ℕ → ℕ → ℕ
cut_as ends wide z s y = seen_as ends wide (bit_and s (get_or z y 0))

-- The table has nothing but what it had and such tips of the nodes of a set, or of nodes that stand in for them, these from class `base` on. It covers what
-- it had, and unless it was full, the tips of all nodes of the set.
pub record Grew (z own ends : List ℕ) (wide : Bool) (ls rs : List ℕ) (base n cells s : ℕ) (ls' rs' : List ℕ) (g : Grown) : Type 0 where
  pub room : TableRoom ls' rs' g.count
  pub low : Untouched base ls rs ls' rs'
  pub least : base ≤ g.count
  pub full : g.full ≡ true → 0 < n
  pub sound : (y o : ℕ) → Has ls' rs' g.count y o → Has ls rs n y o ⊎ ((x : ℕ) × So (bit cells x) × StandsIn own wide x y × (cut_as ends wide z s x ≡ o))
  pub kept : (y o : ℕ) → Has ls rs n y o → Covered ls' rs' g.count y o
  pub whole : g.full ≡ false → (y : ℕ) → y < 64 → So (bit cells y) → Covered ls' rs' g.count y (cut_as ends wide z s y)
