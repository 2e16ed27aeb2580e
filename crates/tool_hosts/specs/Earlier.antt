-- Which VMs are put back on the hosts on which they were, by the lines of an earlier placing.
-- Source: the rule is this project's own. A VM that moves is copied over the network, so few are to move.
use Rattle.std.specs.Prelude.{◌≡◌, ℕ, ◌⊎◌, Bool, true, false, if◌then◌else◌, List, [], ◌∷◌, ◌++◌, Some, None, length, map, replicate, slice_get, slice_index_or, slice_set}
use Rattle.fleet_place.specs.Deals.{IsPlacing, with_vm}
use Rattle.fleet_place.specs.Held.{Held}
use Rattle.fleet_place.specs.declared.group.Group.{Group}
use Rattle.fleet_place.specs.declared.policy.Policy.{Policy}
use Rattle.fleet_place.specs.declared.vm.Vm.{Vm}
use Rattle.tool_hosts.specs.declared.earlier.Stay.{Stay}

-- the cores and the VMs of a host
abbrev pub held_of : Group → Held
held_of group = record { cores = group.cores; vms = group.vms.items }

-- those of all hosts
abbrev pub held_in : List Group → List Held
held_in groups = map held_of groups

-- the line names a VM or a host that isn't there, or a VM that is back on a host
abbrev pub IsPassed : List Vm → List Held → List Bool → Stay → Type 0
IsPassed vms hosts marks s = (slice_get vms s.vm ≡ None)
    ⊎ ((slice_get hosts s.host ≡ None) ⊎ (slice_index_or marks s.vm false ≡ true))

-- the VMs of these lines go back one after the other, and it is marked which are: each goes to the host that its line
-- names, and a line that names what isn't there, or a VM that is back, is passed over
pub data PutBack (vms : List Vm) (start : List Held) : List Stay → List Held → List Bool → Type 0 where
  NoLine : PutBack vms start [] start (replicate (length vms) false)
  Back : (stays : List Stay) (hosts : List Held) (marks : List Bool) (s : Stay) (vm : Vm) (held : Held)
      → PutBack vms start stays hosts marks → slice_get vms s.vm ≡ Some vm → slice_get hosts s.host ≡ Some held
      → slice_index_or marks s.vm false ≡ false
      → PutBack vms start (stays ++ s ∷ []) (slice_set hosts s.host (with_vm held vm)) (slice_set marks s.vm true)
  Passed : (stays : List Stay) (hosts : List Held) (marks : List Bool) (s : Stay)
      → PutBack vms start stays hosts marks → IsPassed vms hosts marks s
      → PutBack vms start (stays ++ s ∷ []) hosts marks

-- the VMs that aren't marked, in their order
abbrev pub others_in : List Bool → List Vm → List Vm
others_in marks [] = []
others_in [] (vm ∷ vms) = []
others_in (mark ∷ marks) (vm ∷ vms) = if mark then others_in marks vms else vm ∷ others_in marks vms

-- the VMs of these lines are back on hosts that have these VMs, and the others are these
pub record AreBack (vms : List Vm) (start : List Held) (stays : List Stay) (hosts : List Held) (others : List Vm)
    : Type 0 where
  pub marks : List Bool
  pub back : PutBack vms start stays hosts marks
  pub left : others ≡ others_in marks vms

-- VMs are placed where those of these lines are back on their hosts before
pub record IsPlacingBeside (policy : Policy) (start : List Held) (vms : List Vm) (stays : List Stay) (hosts : List Held)
    (left : List Vm) : Type 0 where
  pub groups : List Group
  pub others : List Vm
  pub are_back : AreBack vms start stays (held_in groups) others
  pub placing : IsPlacing policy groups others hosts left
