-- `gen`, which reads nothing: the text of the host that its seed and its counts make.
use Rattle.std.specs.Prelude.{ℕ}
use Rattle.tab_core.specs.declared.host.Host.{Host}
use Rattle.host_gen.specs.Generated.{IsGenerated}
use Rattle.host_gen.specs.HostText.{host_text}
use Rattle.tableau_sim.specs.Outcomes.{CallOutcome}
use Rattle.tableau_sim.specs.Outcomes.CallOutcome.{Writes}

-- what `gen` makes of a seed and of counts of cores and vCPUs: a host's text
pub data Gens (seed cores vcpus : ℕ) : CallOutcome → Type 0 where
  Generated : (host : Host) → IsGenerated seed cores vcpus host
      → Gens seed cores vcpus (Writes (host_text host))
