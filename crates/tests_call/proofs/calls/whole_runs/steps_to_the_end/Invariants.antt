use Rattle.std.proofs.Common.{◌≡◌, ◌+◌}
use Rattle.table_form.specs.Running.Invariant.{StateInvariant}
use Rattle.tests_call.proofs.calls.whole_runs.steps_to_the_end.Given as goal

-- the world is of this course, and has room for the steps to come
abbrev pub invariant-loop-turn : goal.invariant-loop-turn
invariant-loop-turn l = record {
  course : l.world.course ≡ l.course;
  rounds : l.world.rounds ≡ l.rounds;
  spare : l.world.spare + l._turn ≡ 200000;
  kept : StateInvariant l.world.course l.world.rounds l.world.state;
}
