-- The links out of a cell (01, "Links").
use Rattle.std.specs.Prelude.{cond, ◌≡◌, List, [], ◌∷◌, ℕ, zero, suc, ◌+◌, ◌-◌, ◌*◌, ◌/◌, ◌≤◌, eqb, ltb, leb, length, take, drop, Result, Ok, Err}
use Rattle.fields.specs.Label.{label_width}
use Rattle.outcome.specs.Outcome.{Outcome, accepted}
use Rattle.outcome.specs.Refused.{named, of_part, declined}
use Rattle.outcome.specs.declared.Refused.{Refused}
use Rattle.outcome.specs.declared.Refusal.TheVariants as says
use Rattle.outcome.specs.declared.Part.TheVariants as part
use Rattle.theory.specs.Search.{list}
use Rattle.theory.specs.Graph.{Link}
use Rattle.theory.specs.Path.{Hop, hop}
use Rattle.book.specs.Book.{version_of, cells_of, links_of, link_width, link_start, link_place, link_in, book_refusal}
use Rattle.book.specs.BookGraph.{book_links}
use Rattle.book.specs.declared.LinksPart.{LinksPart}

-- How many of the links stand before the first whose from cell is not below x.
unfoldable pub links_before : ℕ → List Link → ℕ
links_before x [] = 0
links_before x (k ∷ ks) = cond (ltb k.from x) (suc (links_before x ks)) 0

-- The e links after the recordings of n cells, in order.
abbrev pub links_after : List ℕ → ℕ → ℕ → List Link
links_after s n e = list e (λ k. link_in (label_width (version_of s)) s (link_start s n k))

-- The number of the first link out of cell x, or of a later cell: the links out of x are those from here to the next cell's.
unfoldable pub first_link : List ℕ → ℕ → ℕ
first_link s x = links_before x (book_links s)

-- How many links lead out of cell x.
abbrev pub count_out : List ℕ → ℕ → ℕ
count_out s x = first_link s (x + 1) - first_link s x

-- The links out of cell x by number: from `first` on, before `end`.
pub record RangeOut (s : List ℕ) (x start stop : ℕ) : Type 0 where
  pub first : start ≡ first_link s x
  pub end : stop ≡ first_link s (x + 1)
  pub rises : start ≤ stop
  pub most : stop ≤ links_of s

-- The part that holds `count` links from link k on: where it starts, 0 where it is empty.
unfoldable pub part_from : List ℕ → ℕ → ℕ → LinksPart
part_from s k zero = record { count = 0; start = 0 }
part_from s k (suc count) = record { count = suc count; start = link_place s k }

-- The companion answer: the book's refusal; "26 (cell not below n)"; or how many links lead out of cell x, and where they start.
unfoldable pub links_answer : List ℕ → ℕ → Result LinksPart Refused
links_answer s x =
    cond (eqb (book_refusal s) 0)
    (cond (leb (cells_of s) x) (Err (of_part part.Call says.NoPlace)) (Ok (part_from s (first_link s x) (count_out s x))))
    (Err (of_part part.LeftBook (named (book_refusal s))))

-- The part of the book that an answer speaks of, empty on a refusal.
unfoldable pub part_of : List ℕ → Result LinksPart Refused → List ℕ
part_of s (Ok p) = take (link_width s * p.count) (drop p.start s)
part_of s (Err refused) = []

-- "Links hands out that part of the book."
abbrev pub links_part : List ℕ → ℕ → List ℕ
links_part s x = part_of s (links_answer s x)

-- 01's numbers of an answer: the count and the start; the refusal of the book; or 26, of the call.
abbrev pub links_outcome : Result LinksPart Refused → Outcome
links_outcome (Ok p) = accepted p.count p.start
links_outcome (Err refused) = declined refused

-- A link as a hop from its from cell.
abbrev pub hop_of : Link → Hop
hop_of k = hop k.label k.to

-- The hops that a part holds, whose links have labels of w bytes.
unfoldable pub hops_in : ℕ → List ℕ → List Hop
hops_in w part = list (length part / (2 + w)) (λ k. hop_of (link_in w part ((2 + w) * k)))
