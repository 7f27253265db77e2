-- `sheet::check_two_tests` meets its contract: the first step's test, then the second's.
use Rattle.outcome.specs.RefusalLaws.{number-some}
use Rattle.sheet.proofs.Laws.{passed_on, two-tests-first, two-tests_second}
use Rattle.sheet.proofs.check_two_tests.Goals as goal

pub returns-in_err-check_test : goal.returns-in_err-check_test
returns-in_err-check_test c = passed_on _ _ _ c.from_residual.ensures.1 (search (two-tests-first, number-some, c.in_err-check_test.ensures))

pub returns : goal.returns
returns c = search (two-tests_second, c.in_ok-check_test.ensures)
