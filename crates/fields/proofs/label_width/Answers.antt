-- `fields::label_width` meets its contract.
use mathlib.Core.Path.{sym}
use native.Mathlib.Omega.{arith}
use Rattle.fields.specs.LabelLaws.{label_narrow, label_wide}
use Rattle.fields.proofs.label_width.Goals as goal

pub returns-then-version-eq1 : goal.returns-then-version-eq1
returns-then-version-eq1 c = (sym (search label_narrow), omega arith, omega arith)

pub returns : goal.returns
returns c = (sym (search label_wide), omega arith, omega arith)
