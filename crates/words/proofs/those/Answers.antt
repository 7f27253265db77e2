-- `words::those` meets its contract. The invariant: the word has the cells passed of which the test holds.
use mathlib.Core.Path.{refl, sym, ◌∙◌}
use native.Mathlib.Omega.{arith}
use Rattle.std.proofs.Common.{◌≡◌}
use Rattle.words.specs.Words.{word_of}
use Rattle.words.specs.Laws.{word-in, word_out}
use Rattle.words.proofs.those.Goals.{then-test, else-test}
use Rattle.words.proofs.those.Goals as goal

pub loop-x-init : goal.loop-x-init
unfolding word_of
loop-x-init g c = λ p f. refl

pub loop-x-preserved : goal.loop-x-preserved
loop-x-preserved g c =
    λ p f.
    let e = f c.loop-x.x c.test.result c.loop-x-test.true c.test.ensures in
    let w = c.loop-x.invariant p f in
    elim c.if-test.branch [
      | then-test w' ↦ word-in p c.loop-x.x c.loop-x.out _ w (sym e ∙ w'.if-test.true) _ w'.with-out.ensures w'.out-is
      | else-test w' ↦ word_out p c.loop-x.x c.loop-x.out _ w (sym e ∙ w'.if-test.false) w'.out-is
    ]

pub returns : goal.returns
returns g c = λ p f. let e : c.loop-x.x ≡ c.args.n = omega (arith, c.loop-x-test.false, c.loop-x.auto.x-end) in rw (← e) (c.loop-x.invariant p f)
