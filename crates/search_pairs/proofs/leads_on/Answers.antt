-- `search_pairs::leads_on` meets its contract.
use mathlib.Core.Path.{refl}
use lib.ListN.{replicate}
use Rattle.search_pairs.proofs.Loops.{told_one}
use Rattle.search_pairs.proofs.leads_on.Goals as goal

pub returns : goal.returns
returns c = told_one _ _ _ _ _ _ _ _ _ _ (replicate 64 0) (replicate 64 0) _ _ _ c.only.ensures refl refl c.requires.1 _ _ c.seek.ensures
