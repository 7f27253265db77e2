-- The map (01, "Compare": "map place i × m + j"): its places, the relations that are read from it, and how many places hold 0.
use Rattle.std.specs.Prelude.{Bool, cond, ◌&&◌, ◌||◌, List, [], ◌∷◌, ℕ, zero, suc, ◌+◌, ◌*◌, ◌/◌, ◌%◌, eqb, ltb, leb, get_or}
use Rattle.theory.specs.Search.{list}
use Rattle.theory.specs.Graph.{Graph}
use Rattle.theory.specs.Bisimulation.{Relation}
use Rattle.sheet.specs.Sheet.{hidden_place}

-- The number at the place of the pair (a, b), where m right nodes make a row.
abbrev pub placed : ℕ → List ℕ → ℕ → ℕ → ℕ
placed m xs a b = get_or xs (a * m + b) 0

-- What place p holds before the first round, where m right nodes make a row, and f and g tell which left and right ones are shown: "Map places with a hidden cell
-- get 65,535" (02, 2026-07).
unfoldable pub start_at : ℕ → (ℕ → Bool) → (ℕ → Bool) → ℕ → ℕ
start_at m f g p = cond (f (p / m) && g (p % m)) 0 hidden_place

-- The map of n left and m right nodes before the first round: 0 where both are shown.
unfoldable pub start_map : ℕ → ℕ → (ℕ → Bool) → (ℕ → Bool) → List ℕ
start_map n m f g = list (n * m) (start_at m f g)

-- The pairs whose place holds 0: those that no round has parted yet.
abbrev pub unparted : ℕ → List ℕ → Relation
unparted m xs a b = eqb (placed m xs a b) 0

-- The pairs that were unparted when a round began, if `start` is the number of its first entry: their places hold 0, or an entry of this round.
abbrev pub unparted_before : ℕ → ℕ → List ℕ → Relation
unparted_before m start xs a b = unparted m xs a b || leb start (placed m xs a b)

-- The pairs of z among n left and m right nodes.
abbrev pub among : ℕ → ℕ → Relation → Relation
among n m z a b = ltb a n && (ltb b m && z a b)

-- The relation that the map tells: a place of the map holds 0.
abbrev pub zero_pairs : Graph → Graph → List ℕ → Relation
zero_pairs l r map = among l.size r.size (unparted r.size map)

-- How many places hold 0 (01: "the number of zeros in the map").
unfoldable pub zeros : List ℕ → ℕ
zeros [] = 0
zeros (zero ∷ xs) = suc (zeros xs)
zeros (suc x ∷ xs) = zeros xs

-- How many do not.
unfoldable pub nonzeros : List ℕ → ℕ
nonzeros [] = 0
nonzeros (zero ∷ xs) = nonzeros xs
nonzeros (suc x ∷ xs) = suc (nonzeros xs)
