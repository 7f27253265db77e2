-- `sheet::check_both` meets its contract: a law for each way out.
use Rattle.outcome.specs.RefusalLaws.{number-some}
use Rattle.sheet.proofs.Laws.{passed_on, both_size, both-first, both_second}
use Rattle.sheet.proofs.check_both.Goals as goal

pub returns-then-size : goal.returns-then-size
returns-then-size c = search both_size

pub returns-in_err-check_number : goal.returns-in_err-check_number
returns-in_err-check_number c = passed_on _ _ _ c.from_residual.ensures.1 (search (both-first, number-some, c.in_err-check_number.ensures))

pub returns : goal.returns
returns c = search (both_second, c.in_ok-check_number.ensures)
