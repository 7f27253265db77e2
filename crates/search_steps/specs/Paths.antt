-- Paths by the numbers of their links, and the sets of the other graph's nodes that follow them.
use Rattle.std.specs.Prelude.{List, [], ◌∷◌, ℕ, ◌+◌, ◌≤◌, ◌<◌, get_or}
use Rattle.std.specs.Int.Bits.{bit_and}
use Rattle.theory.specs.Path.{Path}
use Rattle.search_links.specs.Hops.{View, start_of, label_of, to_of, hop_at}
use Rattle.search_links.specs.Sets.{image_of}

-- Link k leaves node x.
pub record Leaves (v : View) (x k : ℕ) : Type 0 where
  pub from : start_of v x ≤ k
  pub until : k < start_of v (x + 1)

-- The links are a path from x.
unfoldable pub Trail : View → ℕ → List ℕ → Type 0
Trail v x [] = Unit {0}
Trail v x (k ∷ p) = Leaves v x k × Trail v (to_of v k) p

-- The node where a path from x ends.
unfoldable pub end_of : View → ℕ → List ℕ → ℕ
end_of v x [] = x
end_of v x (k ∷ p) = end_of v (to_of v k) p

-- Its hops: the theory's path.
unfoldable pub path_of : View → List ℕ → Path
path_of v [] = []
path_of v (k ∷ p) = hop_at v k ∷ path_of v p

-- The nodes that a link of u with the label a leads to from a node of w, of those related to y.
unfoldable pub step_word : View → List ℕ → ℕ → ℕ → ℕ → ℕ
step_word u z w a y = bit_and (image_of u w a) (get_or z y 0)

-- The ends of the paths of u from the nodes of w that are alike to the path p of v.
unfoldable pub ends_over : View → View → List ℕ → ℕ → List ℕ → ℕ
ends_over v u z w [] = w
ends_over v u z w (k ∷ p) = ends_over v u z (step_word u z w (label_of v k) (to_of v k)) p
