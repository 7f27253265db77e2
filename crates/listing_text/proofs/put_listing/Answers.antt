-- `listing_text::put_listing` meets its contract.
use borrow.Author.Rules.{rules}
use Rattle.listing_text.proofs.Exits.{input_large, input_refused, input_some, input_bound, input_listed}
use Rattle.listing_text.proofs.put_listing.Goals as goal

pub returns-then-input-gt-MOST_INPUT : goal.returns-then-input-gt-MOST_INPUT
returns-then-input-gt-MOST_INPUT c = search input_large

pub returns-then-bound_refused : goal.returns-then-bound_refused
returns-then-bound_refused c =
    input_refused _ c.if-input-gt-MOST_INPUT.false _ c.bound_refused.ensures c.if-bound_refused.true (rw c.number.ensures at c.put_ending.ensures)

pub slice_bounds-put_split-count : goal.slice_bounds-put_split-count
slice_bounds-put_split-count c = search input_some

pub slice_bounds-put_split-start : goal.slice_bounds-put_split-start
slice_bounds-put_split-start c = search input_some

pub bounds-input-0 : goal.bounds-input-0
bounds-input-0 c = search input_some

pub put_split-requires : goal.put_split-requires
put_split-requires c = (search input_bound, search rules)

pub returns : goal.returns
returns c = search input_listed
