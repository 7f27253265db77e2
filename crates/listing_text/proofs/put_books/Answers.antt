-- `listing_text::put_books` meets its contract.
use Rattle.book.specs.AcceptedLaws.{lent_now}
use Rattle.listing_text.proofs.Exits.{left_refused, right_refused, books_accepted}
use Rattle.listing_text.proofs.Filled.{bytes_known}
use Rattle.listing_text.proofs.put_books.Goals as goal

pub returns-in-Err : goal.returns-in-Err
returns-in-Err c = left_refused _ _ _ c.in-Err.refusal c.in-Err.ensures.refusal _ c.number.ensures c.put_ending.ensures

pub returns-in-Err-check : goal.returns-in-Err-check
returns-in-Err-check c =
    right_refused _ _ _ c.in-Ok.ensures.refusal c.in-Err-check.refusal c.in-Err-check.ensures.refusal _ c.number-in-Err-check.ensures c.put_ending-in-Err-check.ensures

pub put_accepted-requires : goal.put_accepted-requires
put_accepted-requires c =
    let l = lent_now c.args.left c.in-Ok.is c.check.ensures.lent in
    let r = lent_now c.args.right c.in-Ok-check.is c.check-2.ensures.lent in
    (c.requires.0, c.requires.1, (rw l (bytes_known _ c.type_inv.left), rw r (bytes_known _ c.type_inv.right)))

pub returns : goal.returns
returns c =
    let l = lent_now c.args.left c.in-Ok.is c.check.ensures.lent in
    let r = lent_now c.args.right c.in-Ok-check.is c.check-2.ensures.lent in
    books_accepted _ _ _ c.in-Ok.ensures.refusal c.in-Ok-check.ensures.refusal (rw (l, r) at c.put_accepted.ensures)
