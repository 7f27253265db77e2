-- `listing_text::put_split` meets its contract.
use Rattle.listing_text.proofs.Exits.{split_counts, split_written}
use Rattle.listing_text.proofs.put_split.Goals as goal

pub slice_bounds-put_books-end : goal.slice_bounds-put_books-end
slice_bounds-put_books-end c = search split_counts

pub returns : goal.returns
returns c = search split_written
