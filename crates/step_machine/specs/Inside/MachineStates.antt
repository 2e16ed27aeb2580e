-- What the code keeps of a run, and the state that it stands for.
use Rattle.std.specs.Prelude.{ℕ, ◌+◌, ◌≤◌, min, length, vec_capacity}
use Rattle.table_form.specs.Running.State.{State}
use Rattle.step_machine.specs.declared.machine_state.MachineState.{MachineState}
use Rattle.step_machine.specs.Inside.Logs.{cores_of_logs, LogsHaveRoom}

abbrev pub state_of_machine : MachineState → State
state_of_machine p = record { posted = p.posted; decided = p.decided.items; cores = cores_of_logs p.logs.items }

-- there is room for so many steps more
pub record HasSpare (rounds n : ℕ) (p : MachineState) : Type 0 where
  pub decided : min (length p.decided.items + n) rounds ≤ vec_capacity p.decided
  pub logs : LogsHaveRoom rounds n p.logs.items
