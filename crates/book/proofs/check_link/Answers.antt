-- `book::check_link` meets its contract.
use Rattle.std.proofs.Common.{◌∙◌, ap, sym}
use Rattle.std.specs.Prelude.{option_map}
use Rattle.book.specs.Book.{as_link}
use Rattle.book.proofs.Laws.{head_long, order_is, link_from, link-to, link-first, link_above, link-below}
use Rattle.book.proofs.check_link.Goals as goal

pub cells_of-n-requires : goal.cells_of-n-requires
cells_of-n-requires c = search head_long

pub returns-then-n-link-clause-refusal : goal.returns-then-n-link-clause-refusal
returns-then-n-link-clause-refusal c = search link_from

pub returns-then-n-link-2-clause-refusal : goal.returns-then-n-link-2-clause-refusal
returns-then-n-link-2-clause-refusal c = search link-to

pub returns-in_default-clause-refusal : goal.returns-in_default-clause-refusal
returns-in_default-clause-refusal c =
    let none = sym (ap (option_map as_link) c.in_default.is) ∙ c.requires.2 in
    search (link-first, none)

pub returns-then-lt-clause-refusal : goal.returns-then-lt-clause-refusal
returns-then-lt-clause-refusal c =
    let some = sym (ap (option_map as_link) c.in-Some.is) ∙ c.requires.2 in
    let rises = c.lt.ensures ∙ order_is c.in-Some.before c.read_link-link.result in search (link_above, some, rises)

pub returns-clause-refusal : goal.returns-clause-refusal
returns-clause-refusal c =
    let some = sym (ap (option_map as_link) c.in-Some.is) ∙ c.requires.2 in
    let rises = c.lt.ensures ∙ order_is c.in-Some.before c.read_link-link.result in search (link-below, some, rises)
