-- `search_links::paired` meets its contract.
use Rattle.search_links.proofs.Laws.{paired_join}
use Rattle.search_links.proofs.paired.Goals as goal

pub returns : goal.returns
returns c = paired_join _ _ _ _ c.told-same c.copy_from_slice.ensures.after c.copy_from_slice-2.ensures.after
