-- `truth::claim` meets its contract.
use Rattle.std.proofs.Common.{rules, ◌≡◌}
use Rattle.outcome.specs.RefusalLaws.{told-err, told-ok, passed_on}
use Rattle.outcome.specs.declared.Part.TheVariants as part
use Rattle.book.specs.Book.{book_refusal}
use Rattle.book.specs.AcceptedLaws.{lent_now}
use Rattle.sheet.specs.Sheet.{sheet_refusal}
use Rattle.truth.proofs.Operations.{claim_left, claim_right, claim_left_hidden, claim_right_hidden, claim_sheet, claim_few, claim_entry, claim_left_cell, claim_right_cell, claim_done, has_in, sheet_room, sheet_now}
use Rattle.truth.proofs.claim.Goals.{In_ok-left, In_ok-right, In_ok-sheet}
use Rattle.truth.proofs.claim.Goals as goal

-- the books and the sheet are those that were given, and accepted
left_good : (c : In_ok-left) → (c.in_ok-left.left.bytes.now ≡ c.args.left.now) × (book_refusal c.args.left.now ≡ 0)
left_good c =
    let (d, z) = told-ok part.LeftBook (λ e f k. search rules) _ _ c.map_err.ensures.cases _ c.check.ensures.refusal c.in_ok-left.left c.in_ok-left.was in
    (lent_now c.args.left d c.check.ensures.lent, z)

right_good : (c : In_ok-right) → (c.in_ok-right.right.bytes.now ≡ c.args.right.now) × (book_refusal c.args.right.now ≡ 0)
right_good c =
    let (d, z) = told-ok part.RightBook (λ e f k. search rules) _ _ c.map_err-2.ensures.cases _ c.check-2.ensures.refusal c.in_ok-right.right c.in_ok-right.was in
    (lent_now c.args.right d c.check-2.ensures.lent, z)

sheet_good : (c : In_ok-sheet) → (c.in_ok-sheet.sheet.bytes.now ≡ c.args.sheet.now) × (sheet_refusal c.args.sheet.now ≡ 0)
sheet_good c =
    let (d, z) = told-ok part.Sheet (λ e f k. search rules) _ _ c.map_err-3.ensures.cases _ c.check-3.ensures.refusal c.in_ok-sheet.sheet c.in_ok-sheet.was in
    (sheet_now c.args.sheet d c.check-3.ensures.bytes, z)

pub returns-in_err-left : goal.returns-in_err-left
returns-in_err-left c =
    let f = c.in_err-left.field-0.0 in
    let (d, z) = told-err part.LeftBook (λ e f k. search rules) _ _ c.map_err.ensures.cases _ c.check.ensures.refusal f c.in_err-left.was in
    rw (passed_on c.from_residual.result f c.from_residual.ensures.1) (claim_left _ _ _ _ _ _ _ _ f d z)

pub returns-in_err-right : goal.returns-in_err-right
returns-in_err-right c =
    let (e, p) = left_good (goal.at.returns-in_err-right c).In_ok-left in
    let f = c.in_err-right.field-0.0 in
    let (d, z) = told-err part.RightBook (λ e f k. search rules) _ _ c.map_err-2.ensures.cases _ c.check-2.ensures.refusal f c.in_err-right.was in
    rw (passed_on c.from_residual-in_err-right.result f c.from_residual-in_err-right.ensures.1) (claim_right _ _ _ _ _ _ _ _ p f d z)

pub returns-then-hides_beyond : goal.returns-then-hides_beyond
returns-then-hides_beyond c =
    let (e, p) = left_good (goal.at.returns-then-hides_beyond c).In_ok-left in
    let (e', p') = right_good (goal.at.returns-then-hides_beyond c).In_ok-right in
    search (claim_left_hidden c.args.left.now c.args.right.now c.args.hidden c.args.sheet.now c.args.words.now c.args.entry.0 c.args.cell.0 c.args.other.0 p p' _ (rw e at c.hides_beyond.ensures))

pub returns-then-hides_beyond-2 : goal.returns-then-hides_beyond-2
returns-then-hides_beyond-2 c =
    let (e, p) = left_good (goal.at.returns-then-hides_beyond-2 c).In_ok-left in
    let (e', p') = right_good (goal.at.returns-then-hides_beyond-2 c).In_ok-right in
    search (claim_right_hidden c.args.left.now c.args.right.now c.args.hidden c.args.sheet.now c.args.words.now c.args.entry.0 c.args.cell.0 c.args.other.0 p p' _ (rw e at c.hides_beyond.ensures) c.if-hides_beyond.false _ (rw e' at c.hides_beyond-2.ensures))

pub returns-in_err-sheet : goal.returns-in_err-sheet
returns-in_err-sheet c =
    let (e, p) = left_good (goal.at.returns-in_err-sheet c).In_ok-left in
    let (e', p') = right_good (goal.at.returns-in_err-sheet c).In_ok-right in
    let f = c.in_err-sheet.field-0.0 in
    let (d, z) = told-err part.Sheet (λ e f k. search rules) _ _ c.map_err-3.ensures.cases _ c.check-3.ensures.refusal f c.in_err-sheet.was in
    rw (passed_on c.from_residual-in_err-sheet.result f c.from_residual-in_err-sheet.ensures.1)
    (claim_sheet _ _ _ _ _ _ _ _ p p' _ (rw e at c.hides_beyond.ensures) c.if-hides_beyond.false _ (rw e' at c.hides_beyond-2.ensures) c.if-hides_beyond-2.false f d z)

pub returns-then-words-q : goal.returns-then-words-q
returns-then-words-q c =
    let (e, p) = left_good (goal.at.returns-then-words-q c).In_ok-left in
    let (e', p') = right_good (goal.at.returns-then-words-q c).In_ok-right in
    let (e'', w) = sheet_good (goal.at.returns-then-words-q c).In_ok-sheet in
    search (claim_few c.args.left.now c.args.right.now c.args.hidden c.args.sheet.now c.args.words.now c.args.entry.0 c.args.cell.0 c.args.other.0 p p' _ (rw e at c.hides_beyond.ensures) c.if-hides_beyond.false _ (rw e' at c.hides_beyond-2.ensures) c.if-hides_beyond-2.false w _ (rw e'' at c.entries-q.ensures))

pub returns-then-q-entry : goal.returns-then-q-entry
returns-then-q-entry c =
    let (e, p) = left_good (goal.at.returns-then-q-entry c).In_ok-left in
    let (e', p') = right_good (goal.at.returns-then-q-entry c).In_ok-right in
    let (e'', w) = sheet_good (goal.at.returns-then-q-entry c).In_ok-sheet in
    search (claim_entry c.args.left.now c.args.right.now c.args.hidden c.args.sheet.now c.args.words.now c.args.entry.0 c.args.cell.0 c.args.other.0 p p' _ (rw e at c.hides_beyond.ensures) c.if-hides_beyond.false _ (rw e' at c.hides_beyond-2.ensures) c.if-hides_beyond-2.false w _ (rw e'' at c.entries-q.ensures) c.if-words-q.false)

pub returns-then-not-in_left : goal.returns-then-not-in_left
returns-then-not-in_left c =
    let (e, p) = left_good (goal.at.returns-then-not-in_left c).In_ok-left in
    let (e', p') = right_good (goal.at.returns-then-not-in_left c).In_ok-right in
    let (e'', w) = sheet_good (goal.at.returns-then-not-in_left c).In_ok-sheet in
    search (claim_left_cell c.args.left.now c.args.right.now c.args.hidden c.args.sheet.now c.args.words.now c.args.entry.0 c.args.cell.0 c.args.other.0 p p' _ (rw e at c.hides_beyond.ensures) c.if-hides_beyond.false _ (rw e' at c.hides_beyond-2.ensures) c.if-hides_beyond-2.false w _ (rw e'' at c.entries-q.ensures) c.if-words-q.false c.if-q-entry.false _ (rw e at c.in_left.ensures))

pub returns-then-not-in_right : goal.returns-then-not-in_right
returns-then-not-in_right c =
    let (e, p) = left_good (goal.at.returns-then-not-in_right c).In_ok-left in
    let (e', p') = right_good (goal.at.returns-then-not-in_right c).In_ok-right in
    let (e'', w) = sheet_good (goal.at.returns-then-not-in_right c).In_ok-sheet in
    search (claim_right_cell c.args.left.now c.args.right.now c.args.hidden c.args.sheet.now c.args.words.now c.args.entry.0 c.args.cell.0 c.args.other.0 p p' _ (rw e at c.hides_beyond.ensures) c.if-hides_beyond.false _ (rw e' at c.hides_beyond-2.ensures) c.if-hides_beyond-2.false w _ (rw e'' at c.entries-q.ensures) c.if-words-q.false c.if-q-entry.false _ (rw e at c.in_left.ensures) c.if-not-in_left.false _ (rw e' at c.in_right.ensures))

pub asked-requires : goal.asked-requires
asked-requires c = (
  sheet_room _ _ _ c.in_ok-sheet.sheet.accepted c.entries-q.ensures c.if-words-q.false,
  c.entries-q.ensures,
  c.if-q-entry.false,
  has_in _ _ _ c.in_left.ensures c.if-not-in_left.false,
  has_in _ _ _ c.in_right.ensures c.if-not-in_right.false,
)

pub returns : goal.returns
returns c =
    let (e, p) = left_good (goal.at.returns c).In_ok-left in
    let (e', p') = right_good (goal.at.returns c).In_ok-right in
    let (e'', w) = sheet_good (goal.at.returns c).In_ok-sheet in
    claim_done _ _ _ _ _ _ _ _ p p' _ (rw e at c.hides_beyond.ensures) c.if-hides_beyond.false _ (rw e' at c.hides_beyond-2.ensures) c.if-hides_beyond-2.false w _ (rw e'' at c.entries-q.ensures) c.if-words-q.false c.if-q-entry.false _ (rw e at c.in_left.ensures) c.if-not-in_left.false _ (rw e' at c.in_right.ensures) c.if-not-in_right.false _ _ (rw (e, e', e'') at c.asked.ensures)
