-- What a host document stands for, and its first fault by the table of keys.
-- Source of what a document is: TOML v1.1, as the crate `toml` defines it.
use Rattle.std.specs.Prelude.{◌≡◌, ℕ, List, [], ◌∷◌, Option, Some, None, Result, Ok, Err, IfOk, IsUtf8}
use Rattle.std.specs.Result.{result_err}
use Rattle.tab_core.specs.declared.host.Host.{Host}
use Rattle.toml.specs.Data.{Items, Members}
use Rattle.toml.specs.Parse.{parse_document}
use Rattle.host_doc.specs.KeyTable.{cores_of, document_keys, format_of, lag_of, quantum_of, sliver_of, tick_of, vcpus_of}
use Rattle.host_doc.specs.OtherKeys.{unknown_key}
use Rattle.host_doc.specs.VcpuFaults.{first_of, vcpus_fault}
use Rattle.host_doc.specs.Vcpus.{AreVcpusOf}
use Rattle.host_doc.specs.Path.{of_document}
use Rattle.host_doc.specs.declared.fault.Key.TheVariants.{Unknown}
use Rattle.host_doc.specs.declared.fault.HostFault.{HostFault}

-- the bytes are a TOML document with these members
abbrev pub IsDocument : List ℕ → Members → Type 0
IsDocument bytes members = IsUtf8 bytes × (parse_document bytes ≡ Some members)

-- the first fault of the members of `vcpu`
abbrev pub members_fault : Result Items HostFault → Option HostFault
members_fault (Ok items) = vcpus_fault [] 0 items
members_fault (Err fault) = None

-- the first fault of a document
unfoldable pub first_fault : Members → Option HostFault
first_fault members =
    first_of (result_err (format_of members)
    ∷ result_err (tick_of members)
    ∷ result_err (cores_of members)
    ∷ result_err (lag_of members)
    ∷ result_err (sliver_of members)
    ∷ result_err (quantum_of members)
    ∷ result_err (vcpus_of members)
    ∷ unknown_key (of_document Unknown) (document_keys members) members
    ∷ members_fault (vcpus_of members)
    ∷ [])

-- a document without a fault stands for this host
pub record IsHostOf (members : Members) (host : Host) : Type 0 where
  pub faultless : first_fault members ≡ None
  pub tick_ns : tick_of members ≡ Ok host.tick_ns
  pub cores : cores_of members ≡ Ok host.cores
  pub lag : lag_of members ≡ Ok host.lag
  pub sliver : sliver_of members ≡ Ok host.sliver
  pub quantum : quantum_of members ≡ Ok host.quantum
  pub vcpus : IfOk (vcpus_of members) (λ items. AreVcpusOf items host.vcpus)

-- the bytes are a document that stands for this host
abbrev pub IsHostText : List ℕ → Host → Type 0
IsHostText bytes host = (members : Members) × IsDocument bytes members × IsHostOf members host

-- the bytes are a document with this first fault
abbrev pub HasFirstFault : List ℕ → HostFault → Type 0
HasFirstFault bytes fault = (members : Members) × IsDocument bytes members
    × (first_fault members ≡ Some fault)
