-- `search_tables::put` meets its contract.
use Rattle.search_tables.proofs.Exits.{put_none, stand_ins, put_done}
use borrow.Author.Rules.{rules}
use Rattle.search_tables.proofs.put.Goals as goal

pub returns-then-new-eq0 : goal.returns-then-new-eq0
returns-then-new-eq0 c = search put_none

pub returns : goal.returns
returns c =
    rw c.narrow.ensures.1
    (put_done
    c.narrow.ensures.0
    (search rules)  -- the nodes that are taken out of wider classes were joined to one
    (search rules)  -- narrowing leaves the classes below `base` as they were
    (search stand_ins))  -- these nodes stand in for those that were not covered
