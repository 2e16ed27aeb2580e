-- The keys of a host document, and where a fault of it is.
use Rattle.std.specs.Prelude.{ℕ, List, Some, None, codes}
use Rattle.host_doc.specs.declared.fault.Key.{Key}
use Rattle.host_doc.specs.declared.fault.Key.TheVariants.{Format, Cores, Lag, Sliver, Quantum, Vcpu, Name, Admitted, Runnable, Share, Latency, Capped, Unknown, TickNs}
use Rattle.host_doc.specs.declared.fault.Path.{Path}

-- the key as it is written
abbrev pub word_of : Key → List ℕ
word_of Format = codes "format"
word_of TickNs = codes "tick_ns"
word_of Cores = codes "cores"
word_of Lag = codes "lag"
word_of Sliver = codes "sliver"
word_of Quantum = codes "quantum"
word_of Vcpu = codes "vcpu"
word_of Name = codes "name"
word_of Admitted = codes "admitted"
word_of Runnable = codes "runnable"
word_of Share = codes "share_ppm"
word_of Latency = codes "latency_ns"
word_of Capped = codes "capped"
word_of Unknown = codes "unknown key"

-- a key of the document
abbrev pub of_document : Key → Path
of_document key = record { vcpu = None; key = key }

-- a key of the vCPU of this number
abbrev pub of_vcpu : ℕ → Key → Path
of_vcpu number key = record { vcpu = Some number; key = key }
