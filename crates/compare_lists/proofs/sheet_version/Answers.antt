-- `compare_lists::sheet_version` meets its contract.
use Rattle.compare_lists.proofs.Exits.{bytes_are, left_wide, right_wide, both_narrow}
use Rattle.compare_lists.proofs.sheet_version.Goals as goal

pub returns-then-version_of-eq2 : goal.returns-then-version_of-eq2
returns-then-version_of-eq2 c = record { version = search left_wide; bytes = (bytes_are _ c.type_inv.left, bytes_are _ c.type_inv.right) }

pub returns-then-version_of-eq2-2 : goal.returns-then-version_of-eq2-2
returns-then-version_of-eq2-2 c = record { version = search right_wide; bytes = (bytes_are _ c.type_inv.left, bytes_are _ c.type_inv.right) }

pub returns : goal.returns
returns c = record { version = search both_narrow; bytes = (bytes_are _ c.type_inv.left, bytes_are _ c.type_inv.right) }
