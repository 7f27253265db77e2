-- `sheet::check_entries` meets its contract: the loop keeps the refusal of the entries still to come equal to the whole.
use mathlib.Core.Path.{refl}
use Rattle.outcome.specs.RefusalLaws.{number-some}
use Rattle.sheet.specs.Sheet.{version_of}
use Rattle.sheet.proofs.ReadingLaws.{readable_passed}
use Rattle.sheet.proofs.Laws.{passed_on, entries_start, entries_over, entries_good, entries_stop, entries_next, entries_inside}
use Rattle.sheet.proofs.check_entries.Goals as goal

pub returns-in_err-check_first : goal.returns-in_err-check_first
returns-in_err-check_first c =
    let e = c.in_err-check_first.ensures (version_of c.args.s.now) c.args.c in
    passed_on _ _ _ c.from_residual.ensures.1 (entries_stop _ _ _ _ _ 0 (entries_start _ _ _ _) c.requires.1 _ e (number-some _))

pub next_start-at-requires : goal.next_start-at-requires
next_start-at-requires c = let e = c.in_ok-check_first.ensures (version_of c.args.s.now) 0 in search (readable_passed, e)

pub loop-n-init : goal.loop-n-init
loop-n-init c =
    let e = c.in_ok-check_first.ensures (version_of c.args.s.now) c.args.c in
    let i = entries_start (version_of c.args.s.now) c.args.s.now c.args.c c.args.q in
    (entries_next _ _ _ _ _ 0 i c.requires.1 _ e refl _ c.next_start-at.ensures, entries_inside _ _ _ _ _ 0 i c.requires.1 _ e refl _ c.next_start-at.ensures)

pub returns-in_err-check_entry : goal.returns-in_err-check_entry
returns-in_err-check_entry c = passed_on _ _ _ c.from_residual-in_err-check_entry.ensures.1 (search (entries_stop, number-some, c.in_err-check_entry.ensures))

pub next_start-at-requires-in-loop-n : goal.next_start-at-requires-in-loop-n
next_start-at-requires-in-loop-n c = search (readable_passed, c.in_ok-check_entry.ensures)

pub loop-n-preserved : goal.loop-n-preserved
loop-n-preserved c = (search (entries_next, c.in_ok-check_entry.ensures), search (entries_inside, c.in_ok-check_entry.ensures))

pub returns-then-at-s : goal.returns-then-at-s
returns-then-at-s c = search entries_over

pub returns : goal.returns
returns c = search entries_good
