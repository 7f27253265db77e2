-- `sheet::check_comparison` meets its contract: a law for each way out.
use Rattle.sheet.proofs.Laws.{comparison_short, comparison-first, comparison_second, comparison_size, comparison-tests}
use Rattle.sheet.proofs.check_comparison.Goals as goal

pub returns-then-size-lt2 : goal.returns-then-size-lt2
returns-then-size-lt2 c = search comparison_short

pub returns-then-c-k : goal.returns-then-c-k
returns-then-c-k c = search comparison-first

pub returns-then-c-j : goal.returns-then-c-j
returns-then-c-j c = search comparison_second

pub returns-then-size-steps_size : goal.returns-then-size-steps_size
returns-then-size-steps_size c = search comparison_size

pub returns : goal.returns
returns c = search comparison-tests
