-- `sheet::check_tests` meets its contract: the loop keeps the refusal of the tests still to come equal to the whole.
use mathlib.Core.Path.{◌≡◌, refl}
use Prim.Native.Nat.{◌+◌, ◌-◌, ◌*◌, ◌≤◌}
use native.Mathlib.Omega.{arith}
use Rattle.outcome.specs.RefusalLaws.{number-some}
use Rattle.sheet.proofs.Laws.{passed_on, tests_stop, tests-next, tests_room, tests_on, tests-end, tests_last}
use Rattle.sheet.proofs.check_tests.Goals as goal

pub loop-pair-init : goal.loop-pair-init
loop-pair-init c = let e : c.args.count - 0 ≡ c.args.count = omega arith in rw e (refl, refl)

pub check_two_tests-requires : goal.check_two_tests-requires
check_two_tests-requires c = tests_room _ _ 2 _ _ (omega (arith, c.loop-pair-test.true)) c.loop-pair.invariant.1 _ c.requires

pub returns-in_err-check_two_tests : goal.returns-in_err-check_two_tests
returns-in_err-check_two_tests c =
    let h : 2 ≤ c.args.count - 2 * c.loop-pair._pair = omega (arith, c.loop-pair-test.true) in
    passed_on _ _ _ c.from_residual.ensures.1 (search (tests_stop, number-some, h, c.in_err-check_two_tests.ensures))

pub overflow_add-at : goal.overflow_add-at
overflow_add-at c =
    let h : 2 ≤ c.args.count - 2 * c.loop-pair._pair = omega (arith, c.loop-pair-test.true) in
    omega (arith, tests_room _ _ 2 _ _ h c.loop-pair.invariant.1 _ c.requires, c.steps_size-at.ensures.0)

pub loop-pair-preserved : goal.loop-pair-preserved
loop-pair-preserved c =
    let h : 2 ≤ c.args.count - 2 * c.loop-pair._pair = omega (arith, c.loop-pair-test.true) in
    let e : c.args.count - 2 * (c.loop-pair._pair + 1) ≡ c.args.count - 2 * c.loop-pair._pair - 2 = omega (arith, c.loop-pair-test.true) in
    rw e (tests-next _ _ _ _ 2 _ c.in_ok-check_two_tests.ensures _ _ c.loop-pair.invariant.0 h refl _ c.steps_size-at.ensures.0, tests_on _ _ 2 _ _ h c.loop-pair.invariant.1 _ c.steps_size-at.ensures.0)

pub returns-then-count-eq0 : goal.returns-then-count-eq0
returns-then-count-eq0 c = tests-end _ _ _ _ _ _ c.loop-pair.invariant.0 (omega (arith, c.loop-pair-test.false, c.if-count-eq0.true))

pub check_test-requires : goal.check_test-requires
check_test-requires c = tests_room _ _ 1 _ _ (omega (arith, c.loop-pair-test.false, c.if-count-eq0.false, c.loop-pair.auto._pair-end)) c.loop-pair.invariant.1 _ c.requires

pub returns : goal.returns
returns c =
    let one : c.args.count - 2 * c.loop-pair._pair ≡ 1 = omega (arith, c.loop-pair-test.false, c.if-count-eq0.false, c.loop-pair.auto._pair-end) in
    tests_last _ _ _ _ _ _ c.loop-pair.invariant.0 (omega (arith, one)) (λ z. omega (arith, one, z)) _ c.check_test.ensures
