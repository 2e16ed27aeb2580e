use Rattle.std.proofs.Common.{◌≡◌, ◌+◌, length, take}
use Rattle.table_form.specs.Running.State.{opening}
use Rattle.step_machine.specs.Runs.{Leads}
use Rattle.step_machine.specs.Traces.{IsTrace}
use Rattle.step_machine.proofs.replaying.replay.Given as goal

abbrev pub invariant-loop-place : goal.invariant-loop-place
invariant-loop-place l = record {
  leads : Leads l.course l.rounds (opening l.course.cores) (take l.place l.steps) l.world.state;
  trace : IsTrace l.course l.rounds (opening l.course.cores) (take l.place l.steps) l.world.state l.world.made;
  spare : l.world.spare + l.place ≡ length l.steps;
  course : l.world.course ≡ l.course;
  rounds : l.world.rounds ≡ l.rounds;
}
