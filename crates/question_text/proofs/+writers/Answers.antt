-- The writers of questions and ways meet their contracts, as one cycle of calls. The laws are in `Questions` and `Ways`.
use Rattle.std.proofs.Common.{◌≡◌, ◌+◌, ◌-◌, ◌<◌, rules, arith, refl, sym}
use Rattle.sheet.specs.Reading.{HasNumber}
use Rattle.question_measure.proofs.Exits.{two_kinds}
use Rattle.question_text.proofs.Entries.{comparison_kinds, entered, entered_first, entered_readable, number_below}
use Rattle.question_text.proofs.Questions.{between_text, between_put, question_at, true_fits, true_put, not_number, not_first, not-part, not_put, two-first, two_second, two_opens, two-other, two_closes, two_put}
use Rattle.question_text.proofs.Ways.{first-way_of, second_way_of, exists_way, exists_opens, exists_part, exists_closes, exists_put, compared-first, compared_second, compared_opens, compared-part, compared-other, compared_put, second_sign, second_part, second_put, dot_fits, dot_put, steps_fit, steps_put, going_start, going_end, one_way, others-way, going_fits, going_next, test_earlier, step_label, step_test, step_put}
use Rattle.question_text.proofs.+writers.Goals as goal

pub put_between-put_question-next-requires : goal.put_between-put_question-next-requires
put_between-put_question-next-requires t c = (omega (arith, c.decreases), (omega arith, search between_text))

pub put_between-returns : goal.put_between-returns
put_between-returns t c = search between_put

pub put_comparison-first_way-first-requires : goal.put_comparison-first_way-first-requires
put_comparison-first_way-first-requires t c = let o = entered c.args.source.now.started c.requires.0 in search compared-first

pub put_comparison-put_byte-next-requires : goal.put_comparison-put_byte-next-requires
put_comparison-put_byte-next-requires t c = let o = entered c.args.source.now.started c.requires.0 in search compared_opens

pub put_comparison-put_way-next-requires : goal.put_comparison-put_way-next-requires
put_comparison-put_way-next-requires t c = let o = entered c.args.source.now.started c.requires.0 in (omega (arith, c.decreases), (search first-way_of, search compared-part))

pub put_comparison-put_second-requires : goal.put_comparison-put_second-requires
put_comparison-put_second-requires t c = let o = entered c.args.source.now.started c.requires.0 in (omega (arith, c.decreases), (search rules, search rules, search rules, search compared-other))

pub put_comparison-returns : goal.put_comparison-returns
put_comparison-returns t c = let o = entered c.args.source.now.started c.requires.0 in search compared_put

pub put_exists-first_way-way-requires : goal.put_exists-first_way-way-requires
put_exists-first_way-way-requires t c = let o = entered c.args.source.now.started c.requires.0 in search exists_way

pub put_exists-put_byte-next-requires : goal.put_exists-put_byte-next-requires
put_exists-put_byte-next-requires t c = let o = entered c.args.source.now.started c.requires.0 in search exists_opens

pub put_exists-put_way-next-requires : goal.put_exists-put_way-next-requires
put_exists-put_way-next-requires t c = let o = entered c.args.source.now.started c.requires.0 in (omega (arith, c.decreases), (search first-way_of, search exists_part))

pub put_exists-put_byte-requires : goal.put_exists-put_byte-requires
put_exists-put_byte-requires t c = let o = entered c.args.source.now.started c.requires.0 in search exists_closes

pub put_exists-returns : goal.put_exists-returns
put_exists-returns t c = let o = entered c.args.source.now.started c.requires.0 in search exists_put

pub put_not-part-i-requires : goal.put_not-part-i-requires
put_not-part-i-requires t c = let o = entered c.args.source.now.started c.requires.0 in search not_number

pub put_not-put_byte-next-requires : goal.put_not-put_byte-next-requires
put_not-put_byte-next-requires t c = let o = entered c.args.source.now.started c.requires.0 in search not_first

pub put_not-put_between-requires : goal.put_not-put_between-requires
put_not-put_between-requires t c = let o = entered c.args.source.now.started c.requires.0 in (omega (arith, c.decreases), (search rules, search (number_below, not_number), search not-part))

pub put_not-returns : goal.put_not-returns
put_not-returns t c = let o = entered c.args.source.now.started c.requires.0 in search not_put

pub put_question-kind-kind-requires : goal.put_question-kind-kind-requires
put_question-kind-kind-requires t c =
    let e = question_at _ _ _ _ c.args.source.now.started c.requires.0 refl in
    let o = entered c.args.source.now.started e in
    entered_readable _ _ _ o

pub put_question-put_true-requires : goal.put_question-put_true-requires
put_question-put_true-requires t c =
    let e = question_at _ _ _ _ c.args.source.now.started c.requires.0 refl in
    let o = entered c.args.source.now.started e in
    true_fits _ _ _ o (entered_first _ _ _ o c.if-k-eq0.true) _ _ c.requires.1

pub put_question-returns-then-k-eq0 : goal.put_question-returns-then-k-eq0
put_question-returns-then-k-eq0 t c =
    let e = question_at _ _ _ _ c.args.source.now.started c.requires.0 refl in
    let o = entered c.args.source.now.started e in
    true_put _ _ _ o (entered_first _ _ _ o c.if-k-eq0.true) _ _ _ _ c.put_true.ensures

pub put_question-put_true-requires-in-True : goal.put_question-put_true-requires-in-True
put_question-put_true-requires-in-True t c =
    let e = question_at _ _ _ _ c.args.source.now.started c.requires.0 refl in
    let o = entered c.args.source.now.started e in
    true_fits _ _ _ o c.in-True.ensures _ _ c.requires.1

pub put_question-returns-in-True : goal.put_question-returns-in-True
put_question-returns-in-True t c =
    let e = question_at _ _ _ _ c.args.source.now.started c.requires.0 refl in
    let o = entered c.args.source.now.started e in
    true_put _ _ _ o c.in-True.ensures _ _ _ _ c.put_true-in-True.ensures

pub put_question-put_not-requires : goal.put_question-put_not-requires
put_question-put_not-requires t c =
    let e = question_at _ _ _ _ c.args.source.now.started c.requires.0 refl in
    (omega (arith, c.decreases), (e, sym c.in-Not.ensures, c.requires.1))

pub put_question-put_two-requires : goal.put_question-put_two-requires
put_question-put_two-requires t c =
    let e = question_at _ _ _ _ c.args.source.now.started c.requires.0 refl in
    let (l, h) = two_kinds _ _ refl c.in_default.not-True c.in_default.not-Not (omega arith) in
    (omega (arith, c.decreases), (e, c.kind-kind.ensures, l, h, c.requires.1))

pub put_question-put_exists-requires : goal.put_question-put_exists-requires
put_question-put_exists-requires t c =
    let e = question_at _ _ _ _ c.args.source.now.started c.requires.0 refl in
    (omega (arith, c.decreases), (e, sym c.in-Way.ensures, c.requires.1))

pub put_question-put_comparison-requires : goal.put_question-put_comparison-requires
put_question-put_comparison-requires t c =
    let e = question_at _ _ _ _ c.args.source.now.started c.requires.0 refl in
    (omega (arith, c.decreases), (e, c.kind-kind.ensures, comparison_kinds _ c.in_default-kind.not-Way (omega arith), c.requires.1))

pub put_second-second_way-way-requires : goal.put_second-second_way-way-requires
put_second-second_way-way-requires t c = let o = entered c.args.source.now.started c.requires.0 in search compared_second

pub put_second-put_sign-next-requires : goal.put_second-put_sign-next-requires
put_second-put_sign-next-requires t c = let o = entered c.args.source.now.started c.requires.0 in search second_sign

pub put_second-put_way-next-requires : goal.put_second-put_way-next-requires
put_second-put_way-next-requires t c = let o = entered c.args.source.now.started c.requires.0 in (omega (arith, c.decreases), (search second_way_of, search second_part))

pub put_second-returns : goal.put_second-returns
put_second-returns t c = let o = entered c.args.source.now.started c.requires.0 in search second_put

pub put_step-put_label-next-requires : goal.put_step-put_label-next-requires
put_step-put_label-next-requires t c = search step_label

pub put_step-put_between-requires : goal.put_step-put_between-requires
put_step-put_between-requires t c = (omega (arith, c.decreases), (search rules, search test_earlier, search step_test))

pub put_step-returns : goal.put_step-returns
put_step-returns t c = search step_put

pub put_steps-loop-init : goal.put_steps-loop-init
put_steps-loop-init t c =
    let z : c.args.steps.count - 0 ≡ c.args.steps.count = omega arith in
    record { going = rw z (going_start _ _ _ _); way = rw z c.requires.0; fits = c.requires.1 }

pub put_steps-put_step-next-requires : goal.put_steps-put_step-next-requires
put_steps-put_step-next-requires t c =
    let i = c.loop.invariant in
    let h : 0 < c.args.steps.count - c.loop.counter = omega arith in
    (omega (arith, c.decreases), (one_way _ _ _ _ _ _ i.way h, refl, going_fits _ _ _ _ _ _ i.way h _ _ _ _ _ i.going i.fits))

pub put_steps-loop-preserved : goal.put_steps-loop-preserved
put_steps-loop-preserved t c =
    let i = c.loop.invariant in
    let h : 0 < c.args.steps.count - c.loop.counter = omega arith in
    let e : c.args.steps.count - (c.loop.counter + 1) ≡ c.args.steps.count - c.loop.counter - 1 = omega arith in
    let d = c.steps_size-from.ensures.0 in
    record {
      going = rw e (going_next _ _ _ _ _ _ i.way h _ d _ _ _ _ _ i.going _ _ c.put_step-next.ensures);
      way = rw e (others-way _ _ _ _ _ _ i.way h _ d);
      fits = i.fits;
    }

pub put_steps-returns : goal.put_steps-returns
put_steps-returns t c =
    let e : c.args.steps.count - c.loop.counter ≡ 0 = omega arith in going_end _ _ _ _ _ _ _ _ _ e c.loop.invariant.going

pub put_two-part-i-requires : goal.put_two-part-i-requires
put_two-part-i-requires t c = let o = entered c.args.source.now.started c.requires.0 in search two-first

pub put_two-put_between-next-requires : goal.put_two-put_between-next-requires
put_two-put_between-next-requires t c = let o = entered c.args.source.now.started c.requires.0 in (omega (arith, c.decreases), (search rules, search (number_below, two-first), search two_opens))

pub put_two-part-j-requires : goal.put_two-part-j-requires
put_two-part-j-requires t c = let o = entered c.args.source.now.started c.requires.0 in search two_second

pub put_two-put_question-next-requires : goal.put_two-put_question-next-requires
put_two-put_question-next-requires t c = let o = entered c.args.source.now.started c.requires.0 in
    let h : HasNumber c.args.source.now.sheet.now c.args.start 1 = search two_second in
    let l = number_below _ _ _ _ _ o h c.part-j.ensures in
    (omega (arith, c.decreases), (omega (arith, c.requires.0.listed), search two-other))

pub put_two-put_byte-requires : goal.put_two-put_byte-requires
put_two-put_byte-requires t c = let o = entered c.args.source.now.started c.requires.0 in search two_closes

pub put_two-returns : goal.put_two-returns
put_two-returns t c = let o = entered c.args.source.now.started c.requires.0 in search two_put

pub put_way-put_byte-requires : goal.put_way-put_byte-requires
put_way-put_byte-requires t c = search dot_fits

pub put_way-returns-then-way-eq0 : goal.put_way-returns-then-way-eq0
put_way-returns-then-way-eq0 t c = search dot_put

pub put_way-put_steps-requires : goal.put_way-put_steps-requires
put_way-put_steps-requires t c = (omega (arith, c.decreases), (search rules, search steps_fit))

pub put_way-returns : goal.put_way-returns
put_way-returns t c = search steps_put
