-- `sheet::check_head` meets its contract: a law for each way out.
use Rattle.sheet.proofs.Laws.{head_1, head_2, head_zero, head_later, head_bound, head_none, head_many, head_0}
use Rattle.sheet.proofs.check_head.Goals as goal

pub returns-then-s-lt-HEAD : goal.returns-then-s-lt-HEAD
returns-then-s-lt-HEAD c = search head_1

pub returns-then-l-s : goal.returns-then-l-s
returns-then-l-s c = search head_2

pub returns-then-v-eq0 : goal.returns-then-v-eq0
returns-then-v-eq0 c = search head_zero

pub returns-then-v-gt-MOST_VERSION : goal.returns-then-v-gt-MOST_VERSION
returns-then-v-gt-MOST_VERSION c = search head_later

pub returns-then-c-gt-MOST_BOUND : goal.returns-then-c-gt-MOST_BOUND
returns-then-c-gt-MOST_BOUND c = search head_bound

pub returns-then-q-eq0 : goal.returns-then-q-eq0
returns-then-q-eq0 c = search head_none

pub returns-then-q-gt-MOST_ENTRIES : goal.returns-then-q-gt-MOST_ENTRIES
returns-then-q-gt-MOST_ENTRIES c = search head_many

pub returns : goal.returns
returns c = search head_0
