-- One line of an earlier placing.
use Rattle.std.specs.Prelude.{◌≡◌, Bool, List, [], ◌∷◌, ◌++◌, length}
use Rattle.fleet_place.specs.Held.{Held}
use Rattle.fleet_place.specs.declared.vm.Vm.{Vm}
use Rattle.tool_hosts.specs.Earlier.{PutBack}
use Rattle.tool_hosts.specs.declared.earlier.Stay.{Stay}

-- after the lines by which VMs are back on these hosts, this line makes those of them
pub record IsTurn (vms : List Vm) (s : Stay) (hosts : List Held) (marks : List Bool) (hosts' : List Held)
    (marks' : List Bool) : Type 0 where
  pub many : length marks' ≡ length marks
  pub back : (start : List Held) (stays : List Stay) → PutBack vms start stays hosts marks
      → PutBack vms start (stays ++ s ∷ []) hosts' marks'
