-- `text::put_number` meets its contract.
use native.Mathlib.Omega.{arith}
use Rattle.std.proofs.Common.{ap, length}
use Rattle.text.proofs.Exits.{one_long, one_put, two_long, two_put, as_printed, digits_put}
use Rattle.text.proofs.put_number.Goals as goal

pub put_byte-requires : goal.put_byte-requires
put_byte-requires c = omega (arith, one_long c.args.n c.if-n-lt10.true)

pub returns-then-n-lt10 : goal.returns-then-n-lt10
returns-then-n-lt10 c = search one_put

pub put_two_digits-requires : goal.put_two_digits-requires
put_two_digits-requires c = (c.if-n-lt100.true, omega (arith, two_long c.args.n (omega arith) c.if-n-lt100.true))

pub returns-then-n-lt100 : goal.returns-then-n-lt100
returns-then-n-lt100 c = search two_put

pub write_digits-requires : goal.write_digits-requires
write_digits-requires c = omega (arith, ap length (as_printed c.args.n c.ranges.n.fits), c.digits.ensures.0)

pub returns : goal.returns
returns c =
    let w = c.write_digits.ensures in
    digits_put c.write_digits.result c.ranges.n.fits c.requires (omega (arith, c.digits.ensures.0)) w.start w.written w.before
