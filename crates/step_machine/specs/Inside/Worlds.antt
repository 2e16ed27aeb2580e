-- What every world keeps beside the state that it stands for.
use Rattle.std.specs.Prelude.{◌≡◌, ℕ, ◌+◌, ◌≤◌, List, Some, Vec, length, slice_get, vec_capacity}
use Rattle.std.specs.declared.alloc.Global.{Global}
use Rattle.table_form.specs.Running.Courses.{CourseView, IsCourse, FitsRounds}
use Rattle.table_form.specs.Running.Invariant.{StateInvariant}
use Rattle.slice_table.specs.CoreSlices.{AreSlicesOf}
use Rattle.slice_table.specs.declared.full_span.FullSpan.{FullSpan}
use Rattle.step_machine.specs.declared.machine_state.MachineState.{MachineState}
use Rattle.step_machine.specs.declared.mark.Mark.{Mark}
use Rattle.step_machine.specs.Inside.Logs.{cores_of_logs, KnowLast}
use Rattle.step_machine.specs.Inside.MachineStates.{state_of_machine, HasSpare}
use Rattle.step_machine.specs.Inside.Marks.{AllStand}

-- each of the first n cores has its tables of the course's plans
pub record HaveFirstSlices (course : CourseView) (n : ℕ) (slices : List (List (List FullSpan))) : Type 0 where
  pub count : length slices ≡ n
  pub each : (c : ℕ) (tables : List (List FullSpan)) → slice_get slices c ≡ Some tables
      → AreSlicesOf course c tables

-- each core has them
abbrev pub HaveSlices : CourseView → List (List (List FullSpan)) → Type 0
HaveSlices course slices = HaveFirstSlices course course.cores slices

-- the course and its rounds fit, each core has its tables, the state keeps the invariant, there is room for
-- so many steps more, each mark refers to what is there, and each log knows its core's last shared pick
pub record IsWorld (course : CourseView) (slices : List (List (List FullSpan))) (rounds spare : ℕ)
    (p : MachineState) (marks : Vec Mark Global) : Type 0 where
  pub sliced : HaveSlices course slices
  pub course_kept : IsCourse course
  pub fits : FitsRounds course rounds
  pub kept : StateInvariant course rounds (state_of_machine p)
  pub room : HasSpare rounds spare p
  pub marks_room : length marks.items + spare ≤ vec_capacity marks
  pub stand : AllStand (cores_of_logs p.logs.items) marks.items
  pub last : KnowLast course p.logs.items
