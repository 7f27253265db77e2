-- `book::version_of` meets its contract.
use Rattle.fields.specs.Laws.{byte}
use Rattle.book.proofs.version_of.Goals as goal

pub returns : goal.returns
returns c = search byte
