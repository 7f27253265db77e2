-- `truth::write_words` meets its contract. The links and rows are the tables of the book.
use mathlib.Core.Path.{refl}
use Rattle.edges.specs.Edges.{empty_rows}
use Rattle.truth.proofs.Operations.{words_written}
use Rattle.truth.proofs.write_words.Goals as goal

pub passing-requires : goal.passing-requires
unfolding empty_rows
passing-requires c = (refl, refl)

pub returns : goal.returns
returns c = search words_written
