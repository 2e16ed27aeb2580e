-- What a fault of sizes tells.
-- Source: the words are this project's own.
use Rattle.std.specs.Prelude.{ℕ, List, ◌++◌, codes, decimal}
use Rattle.tab_core.specs.declared.TheConstants.{MAX_VCPUS}
use Rattle.sizes_doc.specs.declared.fault.Part.{Part}
use Rattle.sizes_doc.specs.declared.fault.Part.TheVariants as part
use Rattle.sizes_doc.specs.declared.fault.SizesFault.{SizesFault}
use Rattle.sizes_doc.specs.declared.fault.SizesFault.TheVariants as sizes

-- how the part isn't as it has to be
abbrev pub bad_part_words : Part → List ℕ
bad_part_words part.Form =
    codes "it isn't NAME VMS x VCPUS SHARE LATENCY [capped], nor vm NAME VCPUS SHARE LATENCY [capped]; in a command it is one word, in quotes"
bad_part_words part.Machines = codes "the count of VMs isn't 1 to " ++ decimal MAX_VCPUS
bad_part_words part.Vcpus = codes "the count of vCPUs isn't 1 to " ++ decimal MAX_VCPUS
bad_part_words part.Share =
    codes "the share isn't a number of % or ppm: write it as 20%, 12.5% or 125000ppm, with four decimals at most"
bad_part_words part.ShareUnit = codes "the share has no unit: write it as 20% or 200000ppm"
bad_part_words part.ShareZero = codes "the share is 0: the least is 1ppm"
bad_part_words part.ShareAbove = codes "the share is above 100%, a whole core"
bad_part_words part.Latency = codes "the latency isn't whole nanoseconds in s, ms, us or ns: write it as 20ms or 1.5ms"
bad_part_words part.LatencyUnit = codes "the latency has no unit: write it as 20ms, or with s, us or ns"
bad_part_words part.LatencyAbove = codes "the latency is above 1000s"

-- the fault in words
abbrev pub sizes_fault_words : SizesFault → List ℕ
sizes_fault_words (sizes.BadSize line part) = codes "size " ++ (decimal line ++ (codes ": " ++ bad_part_words part))
sizes_fault_words (sizes.TooMany line) =
    codes "size " ++ (decimal line ++ (codes ": more than " ++ (decimal MAX_VCPUS ++ codes " vCPUs in all")))
sizes_fault_words (sizes.BadName line) =
    codes "size " ++ (decimal line ++ codes ": its name doesn't make names of vCPUs")
sizes_fault_words (sizes.SameName vcpu) = codes "two sizes make vCPUs of one name, the second time vcpu "
    ++ (decimal vcpu ++ codes ": give each size a name of its own")
sizes_fault_words sizes.NoMemory = codes "want of memory"
