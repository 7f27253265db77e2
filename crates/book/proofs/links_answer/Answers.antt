-- `book::links_answer` meets its contract.
use Rattle.std.proofs.Common.{◌∙◌, ap, arith, Err, rules}
use Rattle.outcome.specs.RefusalLaws.{told-err, told-ok, passed_on}
use Rattle.outcome.specs.declared.Part.TheVariants as part
use Rattle.book.specs.AcceptedLaws.{book_long, lent_now}
use Rattle.book.proofs.Laws.{links_refused, no_cell, cell_part, part_few}
use Rattle.book.proofs.links_answer.Goals as goal

pub returns-in_err-book : goal.returns-in_err-book
returns-in_err-book c =
    let f = c.in_err-book.field-0.0 in
    let (d, z) = told-err part.LeftBook (λ e f k. search rules) _ _ c.map_err.ensures.cases _ c.check.ensures.refusal f c.in_err-book.was in
    passed_on c.from_residual.result f c.from_residual.ensures.1 ∙ ap Err d ∙ links_refused _ z _

pub returns-then-cells-cell : goal.returns-then-cells-cell
returns-then-cells-cell c =
    let b = c.in_ok-book.book in
    let (d, z) = told-ok part.LeftBook (λ e f k. search rules) _ _ c.map_err.ensures.cases _ c.check.ensures.refusal b c.in_ok-book.was in
    let e = lent_now c.args.bytes d c.check.ensures.lent in
    ap Err c.of.ensures ∙ no_cell _ z _ _ (rw e at c.cells.ensures.0) (omega arith)

pub part_from-requires : goal.part_from-requires
part_from-requires c =
    let b = c.in_ok-book.book in
    let (d, z) = told-ok part.LeftBook (λ e f k. search rules) _ _ c.map_err.ensures.cases _ c.check.ensures.refusal b c.in_ok-book.was in
    (book_long _ z, c.links_range.ensures.rises, part_few _ _ _ _ b.accepted c.links_range.ensures)

pub returns : goal.returns
returns c =
    let b = c.in_ok-book.book in
    let (d, z) = told-ok part.LeftBook (λ e f k. search rules) _ _ c.map_err.ensures.cases _ c.check.ensures.refusal b c.in_ok-book.was in
    let e = lent_now c.args.bytes d c.check.ensures.lent in
    cell_part _ z _ _ _ _ _ (rw e at c.cells.ensures.0) c.if-cells-cell.false (rw e at c.links_range.ensures) c.part_from.ensures
