-- `question_measure::Known::list` meets its contract.
use borrow.Author.Rules.{rules}
use Rattle.sheet.proofs.PassedLaws.{accepted_head}
use Rattle.sheet.proofs.KnownLaws.{fit_readable, fit_known, start_next}
use Rattle.question_measure.proofs.Exits.{entries_listed, measured_none, measured-next}
use Rattle.question_measure.proofs.Known.list.Goals as goal

pub entry_start-at-requires : goal.entry_start-at-requires
entry_start-at-requires c = (accepted_head _ c.args.sheet.accepted).some

pub loop-k-init : goal.loop-k-init
loop-k-init c =
    record {
      fit = entries_listed _ _ c.args.sheet.accepted c.requires;
      measured = measured_none _ _ _;
      at = c.entry_start-at.ensures;
      chains = search rules;
      lengths = search rules;
    }

pub entry-m-requires : goal.entry-m-requires
entry-m-requires c = let i = c.loop-k.invariant in fit_known _ _ _ i.fit _ _ c.loop-k-test.true i.at _ i.chains

pub next_start-at-requires : goal.next_start-at-requires
next_start-at-requires c = search fit_readable

pub loop-k-preserved : goal.loop-k-preserved
loop-k-preserved c =
    let i = c.loop-k.invariant in
    record {
      fit = i.fit;
      measured = measured-next _ _ i.fit _ _ _ _ _ i.chains i.lengths c.loop-k-test.true i.at i.measured c.entry-m.ensures;
      at = start_next _ _ _ _ i.at c.next_start-at.ensures;
      chains = search rules;
      lengths = search rules;
    }
