-- `compare_entries::part` meets its contract.
use native.Mathlib.Omega.{arith}
use borrow.Author.Rules.{rules}
use Rattle.compare_entries.proofs.Parting.{denied_roomy, name_fits, parted_ahead, parted_back}
use Rattle.compare_entries.proofs.part.Goals as goal

pub put_denied-p-requires : goal.put_denied-p-requires
put_denied-p-requires c = (search rules, omega arith, search denied_roomy)

pub name_pair-requires : goal.name_pair-requires
name_pair-requires c = search name_fits

pub returns-then-ahead : goal.returns-then-ahead
returns-then-ahead c = search parted_ahead

pub put_denied-p-requires-2 : goal.put_denied-p-requires-2
put_denied-p-requires-2 c = (search rules, omega arith, search denied_roomy)

pub name_pair-requires-2 : goal.name_pair-requires-2
name_pair-requires-2 c = search name_fits

pub returns : goal.returns
returns c = search parted_back
