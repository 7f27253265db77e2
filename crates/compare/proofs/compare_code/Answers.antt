-- `compare::compare_code` meets its contract.
use Rattle.compare.proofs.Exits.{values, compare_coded}
use Rattle.compare.proofs.compare_code.Goals as goal

pub accepted-requires : goal.accepted-requires
accepted-requires c = values _ _ _ _ _ _ _ c.in-Ok.done c.in-Ok.ensures c.type_inv.left c.type_inv.right

pub returns-in-Ok : goal.returns-in-Ok
returns-in-Ok c = compare_coded _ _ _ _ _ _ _ _ c.in-Ok.ensures _ c.accepted.ensures

pub returns-in-Err : goal.returns-in-Err
returns-in-Err c = compare_coded _ _ _ _ _ _ _ _ c.in-Err.ensures _ c.code.ensures
