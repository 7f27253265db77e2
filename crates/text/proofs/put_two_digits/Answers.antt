-- `text::put_two_digits` meets its contract.
use Rattle.text.proofs.Exits.{pair_put}
use Rattle.text.proofs.put_two_digits.Goals as goal

pub returns : goal.returns
returns c = search pair_put
