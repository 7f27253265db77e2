-- `compare::compare` meets its contract.
use Rattle.std.proofs.Common.{rules, ◌≡◌}
use Rattle.outcome.specs.RefusalLaws.{told-err, told-ok, passed_on}
use Rattle.outcome.specs.declared.Part.TheVariants as part
use Rattle.book.specs.Book.{book_refusal}
use Rattle.book.specs.AcceptedLaws.{lent_now}
use Rattle.compare.proofs.Exits.{bound_above, left_refused, right_refused, left-hidden, right-hidden}
use Rattle.compare.proofs.compare.Goals.{In_ok-left, In_ok-right}
use Rattle.compare.proofs.compare.Goals as goal

-- the books are those that were given, and accepted
left_good : (c : In_ok-left) → (c.in_ok-left.left.bytes.now ≡ c.args.left.now) × (book_refusal c.args.left.now ≡ 0)
left_good c =
    let (d, z) = told-ok part.LeftBook (λ e f k. search rules) _ _ c.map_err.ensures.cases _ c.check.ensures.refusal c.in_ok-left.left c.in_ok-left.was in
    (lent_now c.args.left d c.check.ensures.lent, z)

right_good : (c : In_ok-right) → (c.in_ok-right.right.bytes.now ≡ c.args.right.now) × (book_refusal c.args.right.now ≡ 0)
right_good c =
    let (d, z) = told-ok part.RightBook (λ e f k. search rules) _ _ c.map_err-2.ensures.cases _ c.check-2.ensures.refusal c.in_ok-right.right c.in_ok-right.was in
    (lent_now c.args.right d c.check-2.ensures.lent, z)

pub returns-then-bound-gt-MOST_BOUND : goal.returns-then-bound-gt-MOST_BOUND
returns-then-bound-gt-MOST_BOUND c = rw c.of.ensures (search bound_above)

pub returns-in_err-left : goal.returns-in_err-left
returns-in_err-left c =
    let f = c.in_err-left.field-0.0 in
    let (d, z) = told-err part.LeftBook (λ e f k. search rules) _ _ c.map_err.ensures.cases _ c.check.ensures.refusal f c.in_err-left.was in
    rw (passed_on c.from_residual.result f c.from_residual.ensures.1) (left_refused _ _ _ _ _ _ c.if-bound-gt-MOST_BOUND.false f d z)

pub returns-in_err-right : goal.returns-in_err-right
returns-in_err-right c =
    let (e, p) = left_good (goal.at.returns-in_err-right c).In_ok-left in
    let f = c.in_err-right.field-0.0 in
    let (d, z) = told-err part.RightBook (λ e f k. search rules) _ _ c.map_err-2.ensures.cases _ c.check-2.ensures.refusal f c.in_err-right.was in
    rw (passed_on c.from_residual-in_err-right.result f c.from_residual-in_err-right.ensures.1) (right_refused _ _ _ _ _ _ c.if-bound-gt-MOST_BOUND.false p f d z)

pub returns-then-hides_beyond : goal.returns-then-hides_beyond
returns-then-hides_beyond c =
    let (e, p) = left_good (goal.at.returns-then-hides_beyond c).In_ok-left in
    let (e', p') = right_good (goal.at.returns-then-hides_beyond c).In_ok-right in
    rw c.of-then-hides_beyond.ensures
    (left-hidden _ _ _ _ _ _ c.if-bound-gt-MOST_BOUND.false p p' _ (rw e at c.hides_beyond.ensures) c.if-hides_beyond.true)

pub returns-then-hides_beyond-2 : goal.returns-then-hides_beyond-2
returns-then-hides_beyond-2 c =
    let (e, p) = left_good (goal.at.returns-then-hides_beyond-2 c).In_ok-left in
    let (e', p') = right_good (goal.at.returns-then-hides_beyond-2 c).In_ok-right in
    rw c.of-then-hides_beyond-2.ensures
    (right-hidden _ _ _ _ _ _ c.if-bound-gt-MOST_BOUND.false p p' _ (rw e at c.hides_beyond.ensures) c.if-hides_beyond.false _ (rw e' at c.hides_beyond-2.ensures) c.if-hides_beyond-2.true)
