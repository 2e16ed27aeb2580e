-- Hosts whose text is read back: those whose vCPUs are all admitted.
use Rattle.std.specs.Prelude.{◌≤◌, length, All}
use Rattle.tab_core.specs.Name.{IsName}
use Rattle.tab_core.specs.Vcpus.{HaveDistinctNames}
use Rattle.tab_core.specs.declared.TheConstants.{MAX_VCPUS}
use Rattle.tab_core.specs.declared.host.Host.{Host}
use Rattle.host_gen.specs.HostText.{AreAdmitted}

-- a host with what its types keep, whose vCPUs are all admitted
pub record IsAdmittedHost (host : Host) : Type 0 where
  pub few : length host.vcpus ≤ MAX_VCPUS
  pub good : All (λ vcpu. IsName vcpu.name) host.vcpus
  pub distinct : HaveDistinctNames host.vcpus
  pub admitted : AreAdmitted host.vcpus
