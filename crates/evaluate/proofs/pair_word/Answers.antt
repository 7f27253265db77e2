-- `evaluate::pair_word` meets its contract.
use borrow.Author.Rules.{rules}
use Rattle.sheet.proofs.KnownLaws.{first_known, second_known}
use Rattle.evaluate.proofs.Laws.{no_first, no_second, pair_returned}
use Rattle.evaluate.proofs.pair_word.Goals as goal

pub end_rows-requires : goal.end_rows-requires
end_rows-requires c = (search first_known, search rules)

pub returns-then-not-end_rows : goal.returns-then-not-end_rows
returns-then-not-end_rows c = search no_first

pub end_rows-requires-2 : goal.end_rows-requires-2
end_rows-requires-2 c = (search second_known, search rules)

pub returns-then-not-end_rows-2 : goal.returns-then-not-end_rows-2
returns-then-not-end_rows-2 c = search no_second

pub returns : goal.returns
returns c = search pair_returned
