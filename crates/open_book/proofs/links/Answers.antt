-- `open_book::links` meets its contract.
use Rattle.std.proofs.Common.{ap, ◌∙◌}
use Rattle.open_book.specs.Opened.{open_part}
use Rattle.open_book.specs.ReadingLaws.{opened-part}
use Rattle.open_book.proofs.links.Goals as goal

pub returns : goal.returns
returns c = c.links_out.ensures ∙ (ap (λ b. open_part b c.args.cell) c.open.ensures ∙ opened-part c.args.bytes c.args.cell)
