-- The table of keys of a host document: for each key its value or its fault. A whole number has its
-- least and its greatest value and its default; a key without a default is required.
use Rattle.std.specs.Prelude.{ℕ, Bool, false, true, List, [], ◌∷◌, Some, None, Result, ◌==◌, if◌then◌else◌, Ok, Err}
use Rattle.toml.specs.Data.{Items, no_items, Members}
use Rattle.host_doc.specs.Path.{of_document, of_vcpu}
use Rattle.host_doc.specs.Array.{items_at}
use Rattle.host_doc.specs.Text.{name_text_at}
use Rattle.host_doc.specs.Value.{integer_at, truth_at}
use Rattle.host_doc.specs.declared.fault.Key.{Key}
use Rattle.host_doc.specs.declared.fault.Key.TheVariants.{Format, Cores, Lag, Sliver, Quantum, Vcpu, Name, Admitted, Runnable, Share, Latency, Capped, TickNs}
use Rattle.host_doc.specs.declared.fault.HostFault.{HostFault}

-- the format of the document, of which there are two
abbrev pub format_of : Members → Result ℕ HostFault
format_of = integer_at (of_document Format) 1 2 (Some 1)

-- the format is the one that has a key for the tick
abbrev pub is_second : Result ℕ HostFault → Bool
is_second (Ok format) = format == 2
is_second (Err fault) = false

-- the length of a tick, in nanoseconds, which format 1 doesn't name
abbrev pub tick_of : Members → Result ℕ HostFault
tick_of members = if is_second (format_of members)
    then integer_at (of_document TickNs) 500 2002 (Some 1001) members
    else Ok 1001

-- the number of cores
abbrev pub cores_of : Members → Result ℕ HostFault
cores_of = integer_at (of_document Cores) 1 32 None

-- the lag, in ticks
abbrev pub lag_of : Members → Result ℕ HostFault
lag_of = integer_at (of_document Lag) 1 102600 (Some 1000)

-- the sliver, in ticks
abbrev pub sliver_of : Members → Result ℕ HostFault
sliver_of = integer_at (of_document Sliver) 0 1000 (Some 30)

-- the quantum, in ticks
abbrev pub quantum_of : Members → Result ℕ HostFault
quantum_of = integer_at (of_document Quantum) 1 102600 (Some 1000)

-- the array of vCPUs, each a table
abbrev pub vcpus_of : Members → Result Items HostFault
vcpus_of = items_at (of_document Vcpu) no_items

-- the keys of a document of format 1
abbrev pub first_keys : List Key
first_keys = Format ∷ Cores ∷ Lag ∷ Sliver ∷ Quantum ∷ Vcpu ∷ []

-- the keys of a document, of which format 2 has one more
abbrev pub document_keys : Members → List Key
document_keys members = if is_second (format_of members) then TickNs ∷ first_keys else first_keys

-- the name of the vCPU of a number, which is required
abbrev pub name_of : ℕ → Members → Result (List ℕ) HostFault
name_of number = name_text_at (of_vcpu number Name)

-- whether the vCPU of a number is admitted
abbrev pub admitted_of : ℕ → Members → Result Bool HostFault
admitted_of number = truth_at (of_vcpu number Admitted) true

-- whether the vCPU of a number wants to run as the run begins
abbrev pub runnable_of : ℕ → Members → Result Bool HostFault
runnable_of number = truth_at (of_vcpu number Runnable) true

-- the share of the vCPU of a number, in parts per million
abbrev pub share_of : ℕ → Members → Result ℕ HostFault
share_of number = integer_at (of_vcpu number Share) 1 1000000 None

-- the latency of the vCPU of a number, in nanoseconds
abbrev pub latency_of : ℕ → Members → Result ℕ HostFault
latency_of number = integer_at (of_vcpu number Latency) 0 1000000000000 None

-- whether the vCPU of a number runs in its slots alone
abbrev pub capped_of : ℕ → Members → Result Bool HostFault
capped_of number = truth_at (of_vcpu number Capped) false

-- the keys of a vCPU
abbrev pub vcpu_keys : List Key
vcpu_keys = Name ∷ Admitted ∷ Runnable ∷ Share ∷ Latency ∷ Capped ∷ []
