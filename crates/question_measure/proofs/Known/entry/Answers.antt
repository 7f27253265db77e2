-- `question_measure::Known::entry` meets its contract.
use native.Mathlib.Omega.{arith}
use Rattle.sheet.proofs.ReadingLaws.{has_number}
use Rattle.sheet.proofs.KnownLaws.{first_known}
use Rattle.question_measure.proofs.Exits.{two_kinds, differ_kind, entry_true, entry_not, entry_two, entry_way, entry_same, entry_differ}
use Rattle.question_measure.proofs.Known.entry.Goals as goal

pub returns-in-True : goal.returns-in-True
returns-in-True c = entry_true _ _ _ c.in-True.ensures

pub named-requires : goal.named-requires
named-requires c = let k = c.in-Not.ensures in (has_number c.requires.entry 0 (omega arith) (omega arith) (omega arith), c.requires)

pub returns-in-Not : goal.returns-in-Not
returns-in-Not c = entry_not _ _ _ _ _ c.named.ensures c.in-Not.ensures c.longer.ensures

pub named-first-requires : goal.named-first-requires
named-first-requires c =
    let (k, l) = two_kinds _ _ c.kind-kind.ensures c.in_default.not-True c.in_default.not-Not (omega arith) in
    (has_number c.requires.entry 0 (omega arith) (omega arith) l, c.requires)

pub named-second-requires : goal.named-second-requires
named-second-requires c =
    let (k, l) = two_kinds _ _ c.kind-kind.ensures c.in_default.not-True c.in_default.not-Not (omega arith) in
    (has_number c.requires.entry 1 (omega arith) (omega arith) l, c.requires)

pub returns-in_default : goal.returns-in_default
returns-in_default c =
    entry_two _ _ _ _ _ c.named-first.ensures _ _ (two_kinds _ _ c.kind-kind.ensures c.in_default.not-True c.in_default.not-Not (omega arith)) c.named-second.ensures c.beside.ensures c.longer-in_default.ensures

pub way-requires : goal.way-requires
way-requires c = search first_known

pub returns-in-Way : goal.returns-in-Way
returns-in-Way c = entry_way _ _ _ _ _ _ c.in-Way.ensures c.first_way.ensures.steps c.way.ensures c.longer-in-Way.ensures

pub returns-in-Same : goal.returns-in-Same
returns-in-Same c = entry_same _ _ _ _ _ c.ways.ensures c.in-Same.ensures c.longer-in-Same.ensures

pub returns-in_default-kind : goal.returns-in_default-kind
returns-in_default-kind c =
    let q = differ_kind _ _ c.kind-kind.ensures c.in_default-kind.not-Way c.in_default-kind.not-Same (omega arith) in
    entry_differ _ _ _ _ _ c.ways-in_default-kind.ensures q c.longer-in_default-kind.ensures
