-- `sheet::check_count` meets its contract: a law for each way out.
use Rattle.sheet.proofs.Laws.{count_absent, count_empty, count_past, count_good}
use Rattle.sheet.proofs.check_count.Goals as goal

pub returns-then-s-at-clause-refusal : goal.returns-then-s-at-clause-refusal
returns-then-s-at-clause-refusal c = search count_absent

pub returns-then-count-eq0-clause-refusal : goal.returns-then-count-eq0-clause-refusal
returns-then-count-eq0-clause-refusal c = search count_empty

pub returns-then-s-at-2-clause-refusal : goal.returns-then-s-at-2-clause-refusal
returns-then-s-at-2-clause-refusal c = search count_past

pub returns-clause-refusal : goal.returns-clause-refusal
returns-clause-refusal c = search count_good
