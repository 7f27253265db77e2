-- `book::check_head` meets its contract.
use Rattle.book.proofs.Laws.{head_short, head_whole, head_unversioned, head_newer, head_counts}
use Rattle.book.proofs.check_head.Goals as goal

pub returns-then-bytes-lt8 : goal.returns-then-bytes-lt8
returns-then-bytes-lt8 c = search head_short

pub returns-then-l-bytes : goal.returns-then-l-bytes
returns-then-l-bytes c = search head_whole

pub returns-then-version-lt1 : goal.returns-then-version-lt1
returns-then-version-lt1 c = search head_unversioned

pub returns-then-version-gt-MOST_VERSION : goal.returns-then-version-gt-MOST_VERSION
returns-then-version-gt-MOST_VERSION c = search head_newer

pub returns : goal.returns
returns c = search head_counts
