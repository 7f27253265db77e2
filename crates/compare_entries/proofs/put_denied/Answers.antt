-- `compare_entries::put_denied` meets its contract.
use Rattle.compare_entries.proofs.Parting.{denial_fits, denied}
use Rattle.compare_entries.proofs.put_denied.Goals as goal

pub put_not-end-requires : goal.put_not-end-requires
put_not-end-requires c = search denial_fits

pub returns : goal.returns
returns c = search denied
