-- `sheet::check_test` meets its contract: the test of one step is the number behind its label.
use Rattle.sheet.proofs.Laws.{one_test}
use Rattle.sheet.proofs.check_test.Goals as goal

pub returns : goal.returns
returns c = search one_test
