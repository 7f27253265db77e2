-- `answers::pair_code` meets its contract.
use Rattle.answers.proofs.PairExits.{bytes_known, question_small, start_small, start_fits}
use Rattle.answers.proofs.pair_code.Goals as goal

pub overflow_cast-start : goal.overflow_cast-start
overflow_cast-start c = let d = rw c.in-Ok-Parted.field-0-is at c.in-Ok-Parted.ensures in record { fits = start_fits _ _ _ (bytes_known _ c.type_inv.bytes) _ _ d }

pub accepted-requires-in-Ok-Parted : goal.accepted-requires-in-Ok-Parted
accepted-requires-in-Ok-Parted c =
    let d = rw c.in-Ok-Parted.field-0-is at c.in-Ok-Parted.ensures in
    let b = bytes_known _ c.type_inv.bytes in
    (question_small _ _ _ b _ _ d, start_small _ _ _ b _ _ d)
