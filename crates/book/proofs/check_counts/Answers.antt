-- `book::check_counts` meets its contract.
use Rattle.book.proofs.Laws.{counts_none, counts_many, counts_links, counts_formula, counts_pass}
use Rattle.book.proofs.check_counts.Goals as goal

pub returns-then-n-lt1 : goal.returns-then-n-lt1
returns-then-n-lt1 c = search counts_none

pub returns-then-n-gt-MOST_CELLS : goal.returns-then-n-gt-MOST_CELLS
returns-then-n-gt-MOST_CELLS c = search counts_many

pub returns-then-e-gt-MOST_LINKS : goal.returns-then-e-gt-MOST_LINKS
returns-then-e-gt-MOST_LINKS c = search counts_links

pub returns-then-l-link_place : goal.returns-then-l-link_place
returns-then-l-link_place c = search counts_formula

pub returns : goal.returns
returns c = search counts_pass
