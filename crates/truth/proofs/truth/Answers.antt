-- `truth::truth` meets its contract.
use Rattle.std.proofs.Common.{rules, ◌≡◌}
use Rattle.outcome.specs.RefusalLaws.{told-err, told-ok, passed_on}
use Rattle.outcome.specs.declared.Part.TheVariants as part
use Rattle.book.specs.Book.{book_refusal}
use Rattle.book.specs.AcceptedLaws.{lent_now}
use Rattle.sheet.specs.Sheet.{sheet_refusal}
use Rattle.truth.proofs.Operations.{truth_book, truth_hidden, truth_sheet, truth_few, truth_done, sheet_now}
use Rattle.truth.proofs.truth.Goals.{In_ok-book, In_ok-sheet}
use Rattle.truth.proofs.truth.Goals as goal

-- the book and the sheet are those that were given, and accepted
book_good : (c : In_ok-book) → (c.in_ok-book.book.bytes.now ≡ c.args.book.now) × (book_refusal c.args.book.now ≡ 0)
book_good c =
    let (d, z) = told-ok part.LeftBook (λ e f k. search rules) _ _ c.map_err.ensures.cases _ c.check.ensures.refusal c.in_ok-book.book c.in_ok-book.was in
    (lent_now c.args.book d c.check.ensures.lent, z)

sheet_good : (c : In_ok-sheet) → (c.in_ok-sheet.sheet.bytes.now ≡ c.args.sheet.now) × (sheet_refusal c.args.sheet.now ≡ 0)
sheet_good c =
    let (d, z) = told-ok part.Sheet (λ e f k. search rules) _ _ c.map_err-2.ensures.cases _ c.check-2.ensures.refusal c.in_ok-sheet.sheet c.in_ok-sheet.was in
    (sheet_now c.args.sheet d c.check-2.ensures.bytes, z)

pub returns-in_err-book : goal.returns-in_err-book
returns-in_err-book c =
    let f = c.in_err-book.field-0.0 in
    let (d, z) = told-err part.LeftBook (λ e f k. search rules) _ _ c.map_err.ensures.cases _ c.check.ensures.refusal f c.in_err-book.was in
    rw (passed_on c.from_residual.result f c.from_residual.ensures.1) (truth_book _ _ _ _ f d z)

pub returns-then-hides_beyond : goal.returns-then-hides_beyond
returns-then-hides_beyond c =
    let (e, z) = book_good (goal.at.returns-then-hides_beyond c).In_ok-book in
    search (truth_hidden c.args.book.now c.args.hidden c.args.sheet.now c.args.words.now z _ (rw e at c.hides_beyond.ensures))

pub returns-in_err-sheet : goal.returns-in_err-sheet
returns-in_err-sheet c =
    let (e, z) = book_good (goal.at.returns-in_err-sheet c).In_ok-book in
    let f = c.in_err-sheet.field-0.0 in
    let (d, x) = told-err part.Sheet (λ e f k. search rules) _ _ c.map_err-2.ensures.cases _ c.check-2.ensures.refusal f c.in_err-sheet.was in
    rw (passed_on c.from_residual-in_err-sheet.result f c.from_residual-in_err-sheet.ensures.1)
    (truth_sheet _ _ _ _ z _ (rw e at c.hides_beyond.ensures) c.if-hides_beyond.false f d x)

pub returns-then-words-q : goal.returns-then-words-q
returns-then-words-q c =
    let (e, z) = book_good (goal.at.returns-then-words-q c).In_ok-book in
    let (e', w) = sheet_good (goal.at.returns-then-words-q c).In_ok-sheet in
    search (truth_few c.args.book.now c.args.hidden c.args.sheet.now c.args.words.now z _ (rw e at c.hides_beyond.ensures) c.if-hides_beyond.false w _ (rw e' at c.entries-q.ensures))

pub returns : goal.returns
returns c =
    let (e, z) = book_good (goal.at.returns c).In_ok-book in
    let (e', w) = sheet_good (goal.at.returns c).In_ok-sheet in
    truth_done _ _ _ _ z _ (rw e at c.hides_beyond.ensures) c.if-hides_beyond.false w _ (rw e' at c.entries-q.ensures) c.if-words-q.false _ (rw (e, e') at c.write_words.ensures)
