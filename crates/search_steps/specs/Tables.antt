-- The tables of tips one link beyond the tips of a table.
use Rattle.std.specs.Prelude.{Bool, true, false, ◌⊎◌, ◌≡◌, List, ℕ, ◌+◌, ◌*◌, ◌/◌, ◌≤◌, ◌<◌, max, length, get_or, Result, Ok, Err}
use Rattle.std.proofs.Math.Bool.{So}
use Rattle.words.specs.Words.{bit}
use Rattle.search_links.specs.Hops.{View, label_of, to_of, hops_of, every_label}
use Rattle.search_links.specs.Sets.{reached, spread, row_at, StandsIn, seen_as}
use Rattle.search_tables.specs.Tips.{Has, Covered, TableRoom, Untouched, cut_as}
use Rattle.search_steps.specs.declared.Full.{Full}
use Rattle.search_steps.specs.declared.Part.{Part}
use Rattle.search_steps.specs.Paths.{Leaves, step_word}

-- Link k leads from the tip (x, w) to the tip (y, o).
pub record Leads (v u : View) (z : List ℕ) (x w k y o : ℕ) : Type 0 where
  pub leaves : Leaves v x k
  pub to : to_of v k ≡ y
  pub word : step_word u z w (label_of v k) y ≡ o

-- A link leads from a tip of the table to the tip (y, o).
pub record Beyond (v u : View) (z ls rs : List ℕ) (n y o : ℕ) : Type 0 where
  pub cell : ℕ
  pub word : ℕ
  pub link : ℕ
  pub has : Has ls rs n cell word
  pub leads : Leads v u z cell word link y o

-- The smallest label from `least` on of the links out of the nodes; where there is none, the number of all labels.
pub record NextLabel (v : View) (cells least a : ℕ) : Type 0 where
  pub onward : least ≤ a
  pub most : a ≤ every_label
  pub none : (x k : ℕ) → x < 64 → So (bit cells x) → Leaves v x k → least ≤ label_of v k → (a ≤ label_of v k) × (a < every_label)
  pub one : (a ≡ every_label) ⊎ ((x k : ℕ) × So (bit cells x) × Leaves v x k × (label_of v k ≡ a))

-- The set has the nodes of the sets from `first` on, up to the n-th.
pub record Unites (sets : List ℕ) (first n w : ℕ) : Type 0 where
  pub each : (e x : ℕ) → first ≤ e → e < n → So (bit (get_or sets e 0) x) → So (bit w x)

-- The row of each of the nodes, by the label a, was put into the rows from `base` on, and no other row was touched.
pub record Rowed (v : View) (cells a base : ℕ) (rows rows' : List ℕ) : Type 0 where
  pub long : length rows' ≡ 128
  pub each : (x : ℕ) → x < 64 → So (bit cells x) → get_or rows' (base + x) 0 ≡ reached (hops_of v x) a
  pub kept : (j : ℕ) → (j < base) ⊎ (base + 64 ≤ j) → get_or rows' j 0 ≡ get_or rows j 0

-- The nodes that the rows of a label lead to from class e.
abbrev pub cells_by : List ℕ → List ℕ → ℕ → ℕ
cells_by rows ls e = spread (row_at rows 0) (get_or ls e 0)

-- The set that the other book's rows lead to from it.
abbrev pub set_by : List ℕ → List ℕ → ℕ → ℕ
set_by rows rs e = spread (row_at rows 1) (get_or rs e 0)

-- How many classes a table has after some classes of another were gone through for one label, up to which, and whether it was too full for the next.
pub record Stretch : Type 0 where
  pub count : ℕ
  pub upto : ℕ
  pub full : Bool

-- The classes from `from` on up to the n-th were gone through, or those before the one for which the table was too full.
abbrev pub stretch : ℕ → ℕ → Result ℕ Full → Stretch
stretch n from (Ok count) = record { count = count; upto = max from n; full = false }
stretch n from (Err f) = record { count = f.count; upto = f.class; full = true }

-- The table has nothing but what it had and tips that the rows of a label lead to from a class from `from` on, or those of nodes that stand in for theirs,
-- these from class `base` on. It covers what it had, and the tips from the classes from `from` up to r.upto.
pub record Stretched (z own ends : List ℕ) (wide : Bool) (rows ls rs : List ℕ) (n from : ℕ) (ls₀ rs₀ : List ℕ) (base count : ℕ) (ls' rs' : List ℕ) (r : Stretch) : Type 0 where
  pub room : TableRoom ls' rs' r.count
  pub low : Untouched base ls₀ rs₀ ls' rs'
  pub least : base ≤ r.count
  pub sound : (y o : ℕ) → Has ls' rs' r.count y o
      → Has ls₀ rs₀ count y o ⊎ ((e x : ℕ) × (from ≤ e) × (e < n) × So (bit (cells_by rows ls e) x) × StandsIn own wide x y × (cut_as ends wide z (set_by rows rs e) x ≡ o))
  pub kept : (y o : ℕ) → Has ls₀ rs₀ count y o → Covered ls' rs' r.count y o
  pub whole : (e y : ℕ) → from ≤ e → e < r.upto → y < 64 → So (bit (cells_by rows ls e) y) → Covered ls' rs' r.count y (cut_as ends wide z (set_by rows rs e) y)
  pub onward : from ≤ r.upto
  pub full : r.full ≡ true → (r.upto < n) × ((from < r.upto) ⊎ (0 < count))
  pub all : r.full ≡ false → n ≤ r.upto

-- Link k leaves node x of class e, one of those from `first` on.
pub record Moves (v : View) (ls : List ℕ) (first n e x k : ℕ) : Type 0 where
  pub least : first ≤ e
  pub class : e < n
  pub cell : x < 64
  pub inside : So (bit (get_or ls e 0) x)
  pub leaves : Leaves v x k

-- The place of class e and label a in the order in which a table is gone through.
abbrev pub slot : ℕ → ℕ → ℕ
slot e a = 64 * a + e

-- The place where all are gone through.
abbrev pub last_place : ℕ
last_place = 64 * every_label

-- A place comes before another, or that is the last.
abbrev pub Passed : ℕ → ℕ → Type 0
Passed s next = (s < next) ⊎ (next ≡ last_place)

-- The class where a label is begun: the first, or that of the place `at` where it is a later one by the same label.
pub record Begins (first a at from : ℕ) : Type 0 where
  pub least : first ≤ from
  pub few : first < 64 → from < 64
  pub reaches : at / 64 ≤ a → at ≤ slot from a
  pub most : (e : ℕ) → first ≤ e → at ≤ slot e a → from ≤ e

-- The table has nothing but what it had and tips one link beyond the classes of another from `first` on, as they are or widened (then of nodes that stand
-- in for theirs too), these from class `base` on. It covers what it had, and the tips by the classes and labels from place `at` up to p.next, which is further on where the table was empty.
pub record Filled (v u : View) (z own ends : List ℕ) (wide : Bool) (ls rs : List ℕ) (first n at : ℕ) (ls₀ rs₀ : List ℕ) (base count : ℕ) (ls' rs' : List ℕ) (p : Part) : Type 0 where
  pub room : TableRoom ls' rs' p.count
  pub low : Untouched base ls₀ rs₀ ls' rs'
  pub least : base ≤ p.count
  pub sound : (y o : ℕ) → Has ls' rs' p.count y o → Has ls₀ rs₀ count y o ⊎ ((x w : ℕ) × Beyond v u z ls rs n x w × StandsIn own wide x y × (seen_as ends wide w ≡ o))
  pub kept : (y o : ℕ) → Has ls₀ rs₀ count y o → Covered ls' rs' p.count y o
  pub whole : (e x k : ℕ) → Moves v ls first n e x k → at ≤ slot e (label_of v k) → Passed (slot e (label_of v k)) p.next
      → Covered ls' rs' p.count (to_of v k) (seen_as ends wide (step_word u z (get_or rs e 0) (label_of v k) (to_of v k)))
  pub further : count ≡ 0 → at < last_place → at < p.next
  pub most : p.next ≤ last_place
