-- A graph's links by their numbers: where the links out of a node begin, and each link's label and the node that it leads to.
use Rattle.std.specs.Prelude.{◌≡◌, ◌⊎◌, List, [], ◌∷◌, ℕ, zero, suc, ◌+◌, ◌-◌, ◌≤◌, ◌<◌, leb, get_or}
use Rattle.theory.specs.Path.{Hop, hop}
use Rattle.words.specs.Words.{first}

-- Three lists: where the links out of each node begin, and each link's label and the node that it leads to.
pub record View : Type 0 where
  pub starts : List ℕ
  pub labels : List ℕ
  pub to : List ℕ

-- The view of three lists.
abbrev pub view_of : List ℕ → List ℕ → List ℕ → View
view_of starts labels to = record { starts = starts; labels = labels; to = to }

-- The links out of node x are those numbered from start_of x up to start_of (x + 1).
abbrev pub start_of : View → ℕ → ℕ
start_of v x = get_or v.starts x 0

-- The label of link k.
abbrev pub label_of : View → ℕ → ℕ
label_of v k = get_or v.labels k 0

-- The node that link k leads to.
abbrev pub to_of : View → ℕ → ℕ
to_of v k = get_or v.to k 0

-- How many links there are, of at most 64 nodes.
abbrev pub total : List ℕ → ℕ
total starts = get_or starts 64 0

-- The hop by link k.
abbrev pub hop_at : View → ℕ → Hop
hop_at v k = hop (label_of v k) (to_of v k)

-- The hops by n links from link k on.
unfoldable pub hops_from : View → ℕ → ℕ → List Hop
hops_from v k zero = []
hops_from v k (suc n) = hop_at v k ∷ hops_from v (suc k) n

-- The hops out of node x.
abbrev pub hops_of : View → ℕ → List Hop
hops_of v x = hops_from v (start_of v x) (start_of v (x + 1) - start_of v x)

-- Lists of 512 hold the links, and each leads to a node that a word has room for.
pub record Opened (starts to : List ℕ) : Type 0 where
  pub few : total starts ≤ 512
  pub within : (x : ℕ) → x ≤ 64 → get_or starts x 0 ≤ total starts
  pub low : (k : ℕ) → k < total starts → get_or to k 0 < 64

-- The links may be read so, and those out of a node are in the order of their labels.
pub record Ordered (v : View) : Type 0 where
  pub opened : Opened v.starts v.to
  pub rising : (x j k : ℕ) → x < 64 → start_of v x ≤ j → j ≤ k → k < start_of v (x + 1) → label_of v j ≤ label_of v k

-- How many labels there can be: each is below.
abbrev pub every_label : ℕ
every_label = 65536

-- Of the labels from `least` on of the links out of node x, and of `best`, the smallest.
pub record LeastLabel (v : View) (x least best a : ℕ) : Type 0 where
  pub onward : least ≤ best → least ≤ a
  pub most : a ≤ best
  pub none : (k : ℕ) → start_of v x ≤ k → k < start_of v (x + 1) → least ≤ label_of v k → (a ≤ label_of v k) × (a < every_label)
  pub one : (a ≡ best) ⊎ ((k : ℕ) × (start_of v x ≤ k) × (k < start_of v (x + 1)) × (least ≤ a) × (label_of v k ≡ a))

-- Of `count` links, the first from node x or a later one.
unfoldable pub lead : ℕ → List ℕ → ℕ → ℕ
lead count fs x = first count (λ k. leb x (get_or fs k 0))

-- The table has where the links out of each node begin, of `count` links in the order of their from nodes.
pub record Starts (count : ℕ) (fs starts : List ℕ) : Type 0 where
  pub each : (x : ℕ) → x < 65 → get_or starts x 0 ≡ lead count fs x
