-- `question_text::list_starts` meets its contract.
use native.Mathlib.Omega.{arith}
use Rattle.sheet.proofs.PassedLaws.{accepted_head}
use Rattle.sheet.proofs.KnownLaws.{start_next}
use Rattle.question_measure.specs.HoldsLaws.{holds_none, holds_next}
use Rattle.question_text.proofs.Pieces.{start_readable, starts_end}
use Rattle.question_text.proofs.list_starts.Goals as goal

pub entry_start-at-requires : goal.entry_start-at-requires
entry_start-at-requires c = (accepted_head _ c.args.sheet.accepted).some

pub loop-start-init : goal.loop-start-init
loop-start-init c = record { places = holds_none _ _; at = c.entry_start-at.ensures }

pub start_of-requires : goal.start_of-requires
start_of-requires c = (c.args.sheet.accepted, start_readable _ c.args.sheet.accepted _ c.requires _ _ c.loop-start-test.true c.loop-start.invariant.at)

pub next_start-at-requires : goal.next_start-at-requires
next_start-at-requires c = start_readable _ c.args.sheet.accepted _ c.requires _ _ c.loop-start-test.true c.loop-start.invariant.at

pub loop-start-preserved : goal.loop-start-preserved
loop-start-preserved c =
    let i = c.loop-start.invariant in
    record {
      places = holds_next i.places (omega arith) _ (search i.at);
      at = start_next _ _ _ _ i.at c.next_start-at.ensures;
    }

pub returns : goal.returns
returns c =
    let l = c.loop-start in
    starts_end _ c.args.sheet.accepted _ c.requires _ _ l.auto.starts c.loop-start-test.false l.auto.start-index-end l.invariant.places
