-- What is kept before the first line.
use Rattle.std.specs.Prelude.{◌≡◌, ℕ, [], List, map}
use Rattle.tab_core.specs.declared.vcpu.Vcpu.{Vcpu}
use Rattle.vcpu_names.specs.Names.{names_of}
use Rattle.host_judge.specs.Inside.Judged.{terms_of}
use Rattle.host_judge.specs.Inside.Readings.{HasReadLines}
use Rattle.host_judge.specs.Inside.Reported.{sold_terms}
use Rattle.host_judge.specs.declared.reading.Reading.{Reading}

-- no line has been read, and these are the vCPUs
pub record HasReadNothing (window : ℕ) (vcpus : List Vcpu) (reading : Reading) : Type 0 where
  pub names : reading.names ≡ names_of vcpus
  pub terms : map terms_of reading.judge.trackers.items ≡ map (sold_terms window) vcpus
  pub read : HasReadLines [] reading
