-- Which VMs stay on the host on which they were.
-- Source: the rule is this project's own. A VM that moves is copied over the network, so few are to move.
use Rattle.std.specs.Prelude.{◌≡◌, ℕ, ◌≤◌, List, [], ◌∷◌, ◌++◌, length}
use Rattle.fleet_place.specs.Fits.{FitsHost, FitsNot}
use Rattle.fleet_place.specs.Held.{Held}
use Rattle.fleet_place.specs.declared.group.Group.{Group}
use Rattle.fleet_place.specs.declared.policy.Policy.{Policy}
use Rattle.fleet_place.specs.declared.vm.Vm.{Vm}

-- of the VMs that were on a host the longest prefix that fits it stays, and the others move
pub record IsStay (policy : Policy) (group : Group) (held : Held) (moved : List Vm) : Type 0 where
  pub cores_are : held.cores ≡ group.cores
  pub parts : group.vms.items ≡ held.vms ++ moved
  pub fits : 1 ≤ length held.vms → FitsHost policy held.cores held.vms
  pub longest : (more rest : List Vm) → moved ≡ more ++ rest → 1 ≤ length more
      → FitsNot policy held.cores (held.vms ++ more)

-- one host after the other keeps what it can of its own VMs, and these VMs move in all
pub data Stay (policy : Policy) : List Group → List Held → List Vm → Type 0 where
  NoHost : Stay policy [] [] []
  NextHost : (groups : List Group) (hosts : List Held) (moved : List Vm) (group : Group) (held : Held) (mine : List Vm)
      → Stay policy groups hosts moved → IsStay policy group held mine
      → Stay policy (groups ++ group ∷ []) (hosts ++ held ∷ []) (moved ++ mine)
