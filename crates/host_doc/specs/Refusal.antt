-- The line of the refusal of a host document: `refused: ` and the fault in words.
use Rattle.std.specs.Prelude.{ℕ, List, [], ◌++◌, codes, decimal, Option, Some, None}
use Rattle.host_doc.specs.Path.{word_of}
use Rattle.host_doc.specs.declared.fault.HostFault.{HostFault}
use Rattle.host_doc.specs.declared.fault.HostFault.TheVariants as host
use Rattle.host_doc.specs.declared.fault.Key.{Key}
use Rattle.host_doc.specs.declared.fault.Key.TheVariants as key
use Rattle.host_doc.specs.declared.fault.Path.{Path}

-- what is after a vCPU's number; a vCPU that is no table has no key
abbrev pub key_behind : Key → List ℕ
key_behind key.Vcpu = []
key_behind key = codes " " ++ word_of key

-- the text of a key, or of a member's key with its vCPU's number
abbrev pub path_in : Option ℕ → Key → List ℕ
path_in None key = word_of key
path_in (Some number) key = codes "vcpu " ++ (decimal number ++ key_behind key)

-- where the fault is
abbrev pub path_text : Path → List ℕ
path_text path = path_in path.vcpu path.key

-- the fault in words
abbrev pub fault_words : HostFault → List ℕ
fault_words host.NotToml = codes "host is not TOML"
fault_words (host.BadKey path) = codes "host key " ++ path_text path
fault_words (host.OutOfRange path) = codes "host value " ++ path_text path
fault_words (host.SameName vcpu) = codes "name of vcpu " ++ (decimal vcpu ++ codes " stands twice")
fault_words (host.TooMany count) = decimal count ++ codes " vcpus"
fault_words host.NoMemory = codes "want of memory"

-- the line of the fault; out of memory is no fault of the text, and has no line here
abbrev pub host_fault_line : HostFault → List ℕ
host_fault_line host.NoMemory = []
host_fault_line fault = codes "refused: " ++ (fault_words fault ++ codes "\n")
