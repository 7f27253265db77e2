-- `sheet::check` meets its contract: the header's refusal, else the entries', else the values of the header.
use mathlib.Core.Path.{◌∙◌}
use borrow.Author.Rules.{rules}
use Rattle.outcome.specs.RefusalLaws.{number-some}
use Rattle.sheet.proofs.Laws.{passed_err, refusal_head, refusal_entries, head_long, head_some, answer_refused, answer_accepted}
use Rattle.sheet.proofs.check.Goals as goal

pub returns-in_err-check_head : goal.returns-in_err-check_head
returns-in_err-check_head c = passed_err _ _ c.from_residual.ensures.1 ∙ search (answer_refused, refusal_head, number-some, c.in_err-check_head.ensures)

pub bounds-bytes-5 : goal.bounds-bytes-5
bounds-bytes-5 c = search (rules, head_long, c.in_ok-check_head.ensures)

pub get-entries-requires : goal.get-entries-requires
get-entries-requires c = search (rules, head_long, c.in_ok-check_head.ensures)

pub check_entries-requires : goal.check_entries-requires
check_entries-requires c = (search (rules, head_long, c.in_ok-check_head.ensures), search (head_some, c.in_ok-check_head.ensures))

pub returns-in_err-check_entries : goal.returns-in_err-check_entries
returns-in_err-check_entries c = passed_err _ _ c.from_residual-in_err-check_entries.ensures.1 ∙ search (answer_refused, refusal_entries, c.in_ok-check_head.ensures, c.in_err-check_entries.ensures)

pub returns : goal.returns
returns c = search (answer_accepted, refusal_entries, c.in_ok-check_head.ensures, c.in_ok-check_entries.ensures)
