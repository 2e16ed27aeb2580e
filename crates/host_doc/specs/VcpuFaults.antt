-- The first fault among the members of `vcpu`.
use Rattle.std.specs.Prelude.{ℕ, ◌+◌, Bool, true, List, [], ◌∷◌, ◌++◌, Option, Some, None, option_to_list, Result, Ok, Err, if◌then◌else◌, bytes_eq}
use Rattle.std.specs.List.{list_any}
use Rattle.std.specs.Option.{option_or}
use Rattle.std.specs.Result.{result_err, result_ok}
use Rattle.toml.specs.Data.{as_table, Items, no_items, item, Members}
use Rattle.host_doc.specs.KeyTable.{admitted_of, capped_of, latency_of, name_of, runnable_of, share_of, vcpu_keys}
use Rattle.host_doc.specs.OtherKeys.{unknown_key}
use Rattle.host_doc.specs.Path.{of_vcpu}
use Rattle.host_doc.specs.declared.fault.Key.TheVariants.{Vcpu as VcpuKey, Unknown}
use Rattle.host_doc.specs.declared.fault.HostFault.{HostFault}
use Rattle.host_doc.specs.declared.fault.HostFault.TheVariants.{BadKey, SameName}

-- the first fault there is
abbrev pub first_of : List (Option HostFault) → Option HostFault
first_of [] = None
first_of (fault ∷ faults) = option_or fault (first_of faults)

-- the name is that of an earlier member
abbrev pub same_name : List (List ℕ) → ℕ → Result (List ℕ) HostFault → Option HostFault
same_name earlier number (Ok name) = if list_any (bytes_eq name) earlier then Some (SameName number) else None
same_name earlier number (Err fault) = None

-- a fault that counts only where the vCPU is admitted
abbrev pub where_admitted : Result Bool HostFault → Option HostFault → Option HostFault
where_admitted (Ok true) fault = fault
where_admitted _ fault = None

-- the first fault of a member's reservation
abbrev pub reservation_fault : ℕ → Members → Option HostFault
reservation_fault number members =
    where_admitted (admitted_of number members)
    (first_of (result_err (share_of number members) ∷ result_err (latency_of number members) ∷ []))

-- the first fault of a member after its name
abbrev pub settings_fault : ℕ → Members → Option HostFault
settings_fault number members =
    first_of (result_err (admitted_of number members)
    ∷ result_err (runnable_of number members)
    ∷ reservation_fault number members
    ∷ result_err (capped_of number members)
    ∷ unknown_key (of_vcpu number Unknown) vcpu_keys members
    ∷ [])

-- the first fault of a member, after members of these names
abbrev pub vcpu_fault : List (List ℕ) → ℕ → Option Members → Option HostFault
vcpu_fault earlier number None = Some (BadKey (of_vcpu number VcpuKey))
vcpu_fault earlier number (Some members) =
    first_of (result_err (name_of number members)
    ∷ same_name earlier number (name_of number members)
    ∷ settings_fault number members
    ∷ [])

-- the name of a member, if it has one
abbrev pub member_names : ℕ → Option Members → List (List ℕ)
member_names number None = []
member_names number (Some members) = option_to_list (result_ok (name_of number members))

-- the first fault of the members from this number on, after members of these names
unfoldable pub vcpus_fault : List (List ℕ) → ℕ → Items → Option HostFault
vcpus_fault earlier number no_items = None
vcpus_fault earlier number (item found items) =
    option_or (vcpu_fault earlier number (as_table found))
    (vcpus_fault (earlier ++ member_names number (as_table found)) (number + 1) items)
