-- `fields::put_label` meets its contract.
use Rattle.std.proofs.Common.{arith}
use Rattle.fields.specs.LabelLaws.{narrow_room, wide_room, narrow-written, wide-written}
use Rattle.fields.proofs.put_label.Goals as goal

pub put-requires : goal.put-requires
put-requires c = (omega arith, search narrow_room)

pub put-requires-else-version-eq1 : goal.put-requires-else-version-eq1
put-requires-else-version-eq1 c = (omega arith, search wide_room)

pub returns-then-version-eq1 : goal.returns-then-version-eq1
returns-then-version-eq1 c = search narrow-written

pub returns-else-version-eq1 : goal.returns-else-version-eq1
returns-else-version-eq1 c = search wide-written
