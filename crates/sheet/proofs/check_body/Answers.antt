-- `sheet::check_body` meets its contract: the body by its kind.
use Rattle.sheet.proofs.Laws.{body_by_plain, body_by_way, body_by_comparison}
use Rattle.sheet.proofs.check_body.Goals as goal

pub returns-then-number : goal.returns-then-number
returns-then-number c = search (body_by_plain, c.number.ensures, c.number-2.ensures)

pub returns-then-eq : goal.returns-then-eq
returns-then-eq c = search (body_by_way, c.if-eq.ensures)

pub returns : goal.returns
returns c = search (body_by_comparison, c.number.ensures, c.number-2.ensures, c.if-eq.ensures)
