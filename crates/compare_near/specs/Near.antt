-- The cells near a set of cells: a clause of a cell depends on no others.
use Rattle.std.specs.Prelude.{not, List, ℕ, zero, suc, eqb, get_or}
use Rattle.std.specs.Int.Bits.{bit_or}
use Rattle.words.specs.Words.{word_of}
use Rattle.search_links.specs.Sets.{leads_to}

-- The nodes, of n, whose row is not what it was.
unfoldable pub changed : List ℕ → List ℕ → ℕ → ℕ
changed before after n = word_of n (λ i. not (eqb (get_or before i 0) (get_or after i 0)))

-- The nodes, of n, that a link leads from to a node of w.
unfoldable pub behind : List ℕ → List ℕ → ℕ → ℕ → ℕ
behind starts to n w = word_of n (leads_to starts to w)

-- The nodes of w, and those, of n, that at most d links lead from to a node of w.
unfoldable pub near_to : List ℕ → List ℕ → ℕ → ℕ → ℕ → ℕ
near_to starts to n w zero = w
near_to starts to n w (suc d) = bit_or (near_to starts to n w d) (behind starts to n (near_to starts to n w d))

-- How many links the clauses for a bound go: one link, and ways of at most as many as the bound.
unfoldable pub reach_of_lem : ℕ → ℕ
reach_of_lem zero = 1
reach_of_lem (suc c) = suc c
