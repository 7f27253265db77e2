use Rattle.std.specs.Prelude.{◌≡◌, ◌-◌, option_map}
use Rattle.book.specs.Book.{as_link, preceding, links_of, links_refusal}
use Rattle.book.proofs.check_links.Given as goal

abbrev pub invariant-loop-k : goal.invariant-loop-k
invariant-loop-k l =
    (links_refusal l.bytes 0 (links_of l.bytes) ≡ links_refusal l.bytes l.k (links_of l.bytes - l.k))
    × (option_map as_link l.before ≡ preceding l.bytes l.k)
