-- `fields::get_label` meets its contract.
use Rattle.std.proofs.Common.{arith}
use Rattle.fields.specs.Laws.{byte}
use Rattle.fields.specs.LabelLaws.{narrow_room, wide_room, narrow-field, wide-field}
use Rattle.fields.proofs.get_label.Goals as goal

pub bounds-s-at : goal.bounds-s-at
bounds-s-at c = omega (arith, narrow_room c.args.version c.args.at _ c.if-version-eq1.true c.requires)

pub returns-then-version-eq1 : goal.returns-then-version-eq1
returns-then-version-eq1 c = narrow-field c.args.version _ _ _ c.if-version-eq1.true (byte c.args.s.now c.args.at)

pub get-requires : goal.get-requires
get-requires c = (omega arith, search wide_room)

pub returns : goal.returns
returns c = search wide-field
