-- The writers of questions and ways call one another. The entry's number falls from a question to its parts and tests, and a writer's place on the way
-- there is added to eight times the number; the steps left of a way fall in the loop, which keeps what it has written.
use Rattle.std.proofs.Common.{◌+◌, ◌-◌, ◌*◌, ◌≤◌, length}
use Rattle.question_text.specs.Writing.{WayOf, steps_text_of}
use Rattle.question_text.proofs.Ways.{run, Going}
use Rattle.question_text.proofs.+writers.Given as goal

abbrev pub decreases-put_between : goal.decreases-put_between
decreases-put_between l = l.k * 8

abbrev pub decreases-put_comparison : goal.decreases-put_comparison
decreases-put_comparison l = l.k * 8 + 5

abbrev pub decreases-put_exists : goal.decreases-put_exists
decreases-put_exists l = l.k * 8 + 5

abbrev pub decreases-put_not : goal.decreases-put_not
decreases-put_not l = l.k * 8 + 5

abbrev pub decreases-put_question : goal.decreases-put_question
decreases-put_question l = l.k * 8 + 6

abbrev pub decreases-put_second : goal.decreases-put_second
decreases-put_second l = l.k * 8 + 4

abbrev pub decreases-put_step : goal.decreases-put_step
decreases-put_step l = l.k * 8 + 1

abbrev pub decreases-put_steps : goal.decreases-put_steps
decreases-put_steps l = l.k * 8 + 2

abbrev pub decreases-put_two : goal.decreases-put_two
decreases-put_two l = l.k * 8 + 5

abbrev pub decreases-put_way : goal.decreases-put_way
decreases-put_way l = l.k * 8 + 3

abbrev pub invariant-put_steps-loop : goal.invariant-put_steps-loop
invariant-put_steps-loop l =
    let sheet = l.source.sheet.now in
    let text = steps_text_of sheet (run l.version l.initial.from l.fn.steps.count) in
    let rest = run l.version l.from (l.fn.steps.count - l.counter) in
    record {
      going : Going sheet l.initial.room l.at text l.room l.next rest;
      way : WayOf sheet l.source.starts.now l.k rest;
      fits : l.at + length text ≤ length l.initial.room;
    }
