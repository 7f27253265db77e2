-- `question_text::write_of` meets its contract.
use Rattle.outcome.specs.RefusalLaws.{passed_on}
use Rattle.question_text.proofs.Operations.{write_small, write_good, write_there, write_fits, write_done, write_refused}
use Rattle.question_text.proofs.write_of.Goals as goal

pub returns-in_err-length : goal.returns-in_err-length
returns-in_err-length c =
    let f = c.in_err-length.field-0.0 in
    rw (passed_on c.from_residual.result f c.from_residual.ensures.1) (write_refused _ _ _ _ c.length_of.ensures f c.in_err-length.was)

pub returns-then-room-length : goal.returns-then-room-length
returns-then-room-length c = rw c.of.ensures (write_small _ _ _ _ c.length_of.ensures _ c.in_ok-length.was c.if-room-length.true)

pub invariant_of-put_text : goal.invariant_of-put_text
invariant_of-put_text c = record { accepted = write_good _ _ c.args.room.now _ c.length_of.ensures _ c.in_ok-length.was }

pub put_text-requires : goal.put_text-requires
put_text-requires c =
    let d = c.length_of.ensures in
    let e = c.in_ok-length.was in
    (write_there _ _ c.args.room.now _ d _ e, write_fits _ _ c.args.room.now _ d _ e c.if-room-length.false)

pub returns : goal.returns
returns c = write_done _ _ _ _ c.length_of.ensures _ c.in_ok-length.was _ c.if-room-length.false c.put_text.ensures
