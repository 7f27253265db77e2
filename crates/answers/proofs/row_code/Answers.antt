-- `answers::row_code` meets its contract.
use lib.Dec.{lit<}
use Rattle.answers.proofs.RowExits.{row_small}
use Rattle.answers.proofs.row_code.Goals as goal

pub accepted-requires : goal.accepted-requires
accepted-requires c = (search (row_small, c.in-Ok.ensures), lit< tt)
