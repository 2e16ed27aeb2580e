-- The fault of a host section is one, and a text of a host has none.
use Rattle.std.proofs.Common.{◌≡◌, List, ℕ, refl}
use Rattle.tab_core.specs.declared.host.Host.{Host}
use Rattle.host_doc.specs.Document.{IsHostText}
use Rattle.host_doc.specs.declared.fault.HostFault.{HostFault}
use Rattle.host_doc.specs.declared.fault.HostFault.TheVariants as host
use Rattle.host_doc.proofs.OneHost.{has_no_fault, one_first_fault}
use Rattle.tableau_sim.specs.Hosts.{IsHostFault}

-- a section that is a host is never refused as none
pub no_host_fault : (bytes : List ℕ) (fault : HostFault) (h : Host) → IsHostFault bytes fault
    → IsHostText bytes h → ⊥
no_host_fault bytes host.NotToml h p q = p q.0 q.1
no_host_fault bytes host.NoMemory h p q = p
no_host_fault bytes fault h p q = has_no_fault bytes fault h p q

-- a section is refused for one fault
pub one_host_fault : (bytes : List ℕ) (f g : HostFault) → IsHostFault bytes f → IsHostFault bytes g → f ≡ g
one_host_fault bytes host.NoMemory g p q = absurd p
one_host_fault bytes f host.NoMemory p q = absurd q
one_host_fault bytes host.NotToml host.NotToml p q = refl
one_host_fault bytes host.NotToml g p q = absurd (p q.0 q.1)
one_host_fault bytes f host.NotToml p q = absurd (q p.0 p.1)
one_host_fault bytes f g p q = one_first_fault bytes f g p q
