use Rattle.std.proofs.Common.{◌≡◌, ℕ, inl, inr, length, arith}
use Rattle.std.proofs.lemmas.Option.{slice_get_within}
use Rattle.table_form.specs.Running.Courses.{CourseView}
use Rattle.table_form.specs.Running.State.{State}
use Rattle.script_doc.specs.declared.step.Step.{Step}
use Rattle.script_doc.specs.declared.step.Step.TheVariants as step
use Rattle.step_machine.specs.Answers.{Moves, NamesCore}
use Rattle.tests_call.proofs.calls.whole_runs.steps_to_the_end.Goals as goal

-- a step that is allowed names a core of the course
names : (course : CourseView) (rounds : ℕ) (old new : State) (taken : Step) → length old.cores ≡ course.cores
    → Moves course rounds old taken new → NamesCore course taken
names course rounds old new step.Post size moves = tt {0}
names course rounds old new (step.See c) size moves =
    omega (arith, size, slice_get_within old.cores c moves.core moves.at)
names course rounds old new (step.Decide c) size (inl first) =
    omega (arith, size, slice_get_within old.cores c first.round.core first.round.at)
names course rounds old new (step.Decide c) size (inr after) =
    omega (arith, size, slice_get_within old.cores c after.round.core after.round.at)
names course rounds old new (step.Run c) size moves =
    omega (arith, size, slice_get_within old.cores c moves.core moves.at)

pub apply-answer-requires-clause-core : goal.apply-answer-requires-clause-core
apply-answer-requires-clause-core c =
    let world = c.loop-turn.world in
    let next = c.in-Some.ensures.some in
    rw c.copy_of.ensures
    (names world.course world.rounds world.state next.new c.in-Some.step
    c.loop-turn.invariant.kept.size next.moves)
