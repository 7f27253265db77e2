-- `evaluate::entry_word` meets its contract. A return for each kind.
use native.Mathlib.Omega.{arith}
use mathlib.Core.Path.{◌∙◌}
use Rattle.sheet.specs.Entry.{kind_number}
use Rattle.sheet.specs.KindLaws.{last_plain, last_stepped}
use Rattle.sheet.proofs.KindLaws.{kind_two}
use Rattle.sheet.proofs.KnownLaws.{first_number, second_number, first_known}
use Rattle.evaluate.proofs.Laws.{entry_true, entry_not, entry_and, entry_or, entry_way, entry_same, entry_differ}
use Rattle.evaluate.proofs.entry_word.Goals as goal

pub returns-in-True : goal.returns-in-True
returns-in-True c = entry_true _ c.args.known.now c.args.sheet.now c.args.at c.in-True.ensures

pub named_word-requires : goal.named_word-requires
named_word-requires c = (first_number _ _ _ 1 c.requires (omega (arith, c.in-Not.ensures)) c.in-Not.ensures (λ e. omega arith), c.requires)

pub returns-in-Not : goal.returns-in-Not
returns-in-Not c = entry_not _ c.args.known.now c.args.sheet.now c.args.at _ c.named_word.ensures c.in-Not.ensures

pub named_word-a-requires : goal.named_word-a-requires
named_word-a-requires c =
    let two = kind_two c.kind-kind.result c.in_default.not-True c.in_default.not-Not in
    (first_number _ _ _ (kind_number c.kind-kind.result) c.requires (omega (arith, c.if-number.true)) c.kind-kind.ensures (λ e. omega arith), c.requires)

pub named_word-b-requires : goal.named_word-b-requires
named_word-b-requires c =
    let two = kind_two c.kind-kind.result c.in_default.not-True c.in_default.not-Not in
    (second_number _ _ _ (kind_number c.kind-kind.result) c.requires (omega (arith, c.if-number.true)) c.kind-kind.ensures (λ e. omega arith) (λ e. omega arith), c.requires)

pub returns-in-And : goal.returns-in-And
returns-in-And c = entry_and _ c.args.known.now c.args.sheet.now c.args.at _ c.named_word-a.ensures _ c.named_word-b.ensures _ c.in-And.ensures c.meet.ensures

pub returns-in_default-kind : goal.returns-in_default-kind
returns-in_default-kind c =
    let d = c.in_default in
    let e = last_plain c.kind-kind.result (omega (arith, c.if-number.true)) d.not-True d.not-Not c.in_default-kind.not-And in
    entry_or _ c.args.known.now c.args.sheet.now c.args.at _ c.named_word-a.ensures _ c.named_word-b.ensures _ (e ∙ c.kind-kind.ensures) c.union.ensures

pub way_word-requires : goal.way_word-requires
way_word-requires c = search first_known

pub returns-in-Way : goal.returns-in-Way
returns-in-Way c = entry_way _ c.args.known.now c.args.sheet.now c.args.at _ c.in-Way.ensures _ _ c.first_way-way.ensures c.way_word.ensures

pub returns-in-Same : goal.returns-in-Same
returns-in-Same c = entry_same _ c.args.known.now c.args.sheet.now c.args.at _ c.in-Same.ensures c.pair_word.ensures

pub returns-in_default-kind-2 : goal.returns-in_default-kind-2
returns-in_default-kind-2 c =
    let d = c.in_default-kind-2 in
    let e = last_stepped c.kind-kind.result (omega (arith, c.if-number.false)) d.not-Way d.not-Same in
    entry_differ _ c.args.known.now c.args.sheet.now c.args.at _ (e ∙ c.kind-kind.ensures) c.pair_word-in_default-kind-2.ensures
