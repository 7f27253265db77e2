-- `question_text::entry_answer` meets its contract.
use Rattle.std.proofs.Common.{◌∙◌, ap, Err}
use Rattle.question_text.proofs.Operations.{chain_long, text_long, text_told}
use Rattle.question_text.proofs.entry_answer.Goals as goal

pub returns-then-m-gt-MOST_CHAIN : goal.returns-then-m-gt-MOST_CHAIN
returns-then-m-gt-MOST_CHAIN c = ap Err c.of.ensures ∙ chain_long _ _ c.measure_of-m.ensures c.if-m-gt-MOST_CHAIN.true

pub returns-then-m-gt-MOST_LENGTH : goal.returns-then-m-gt-MOST_LENGTH
returns-then-m-gt-MOST_LENGTH c =
    ap Err c.of-then-m-gt-MOST_LENGTH.ensures ∙ text_long _ _ c.measure_of-m.ensures c.if-m-gt-MOST_CHAIN.false c.if-m-gt-MOST_LENGTH.true

pub returns : goal.returns
returns c = search text_told
