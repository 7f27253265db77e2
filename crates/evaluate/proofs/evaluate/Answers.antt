-- `evaluate::evaluate` meets its contract. The invariant: what is written from here on is what is written from the start on, and entry k starts at `at`.
use borrow.Author.Rules.{rules}
use lib.ListN.{length-set}
use Rattle.sheet.proofs.KnownLaws.{fit_first, fit_known, fit_readable, start_next}
use Rattle.evaluate.proofs.Laws.{evaluate_start, evaluate_next, evaluate_end}
use Rattle.evaluate.proofs.evaluate.Goals as goal

pub entry_start-at-requires : goal.entry_start-at-requires
entry_start-at-requires c = (fit_first _ _ _ c.requires).1

pub loop-k-init : goal.loop-k-init
loop-k-init c = (search evaluate_start, search rules, search rules)

pub entry_word-requires : goal.entry_word-requires
entry_word-requires c = search fit_known

pub next_start-at-requires : goal.next_start-at-requires
next_start-at-requires c = search fit_readable

pub loop-k-preserved : goal.loop-k-preserved
loop-k-preserved c =
    let i = c.loop-k.invariant in
    (search (evaluate_next _ _ _ _ _ _ _ i.0), search start_next, rw length-set i.2)

pub returns : goal.returns
returns c = search evaluate_end
