-- `question_text::length_of` meets its contract.
use native.Mathlib.Omega.{arith}
use Rattle.std.proofs.Common.{◌∙◌, ap, Err, rules}
use Rattle.outcome.specs.RefusalLaws.{told-err, told-ok, passed_on}
use Rattle.outcome.specs.declared.Part.TheVariants as part
use Rattle.question_text.proofs.Operations.{checked_bytes, checked_refused, checked_none, checked_told}
use Rattle.question_text.proofs.length_of.Goals as goal

pub returns-in_err-sheet : goal.returns-in_err-sheet
returns-in_err-sheet c =
    let f = c.in_err-sheet.field-0.0 in
    passed_on c.from_residual.result f c.from_residual.ensures.1
    ∙ checked_refused _ _ f (told-err part.Sheet (λ e f k. search rules) _ _ c.map_err.ensures.cases _ c.check.ensures.refusal f c.in_err-sheet.was)

pub returns-then-entries-entry : goal.returns-then-entries-entry
returns-then-entries-entry c =
    let (d, z) = told-ok part.Sheet (λ e f k. search rules) _ _ c.map_err.ensures.cases _ c.check.ensures.refusal c.in_ok-sheet.sheet c.in_ok-sheet.was in
    let q = rw (checked_bytes c.args.sheet d c.check.ensures.bytes) at c.entries.ensures in
    ap Err c.of.ensures ∙ checked_none _ _ z (omega arith)

pub returns : goal.returns
returns c =
    let (d, z) = told-ok part.Sheet (λ e f k. search rules) _ _ c.map_err.ensures.cases _ c.check.ensures.refusal c.in_ok-sheet.sheet c.in_ok-sheet.was in
    let e = checked_bytes c.args.sheet d c.check.ensures.bytes in
    let q = rw e at c.entries.ensures in
    checked_told _ _ z _ (omega arith) (rw e at c.entry_answer.ensures)
