-- `edges::passing` meets its contract.
use borrow.Author.Rules.{rules}
use Rattle.edges.proofs.Books.{both_rows}
use Rattle.edges.proofs.passing.Goals as goal

pub same_rows-requires : goal.same_rows-requires
same_rows-requires c = c.requires.0

pub differ_rows-requires : goal.differ_rows-requires
differ_rows-requires c = (search rules, c.requires.1)

pub returns : goal.returns
returns c = search both_rows
