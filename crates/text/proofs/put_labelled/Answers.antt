-- `text::put_labelled` meets its contract.
use Rattle.text.specs.Text.{labelled}
use Rattle.text.proofs.Exits.{labelled_fits, labelled_put}
use Rattle.text.proofs.put_labelled.Goals as goal

pub put_number-requires : goal.put_number-requires
put_number-requires c = search labelled_fits

pub returns : goal.returns
unfolding labelled
returns c = search labelled_put
