-- Inputs whose first two sections are a host and a script of it.
use Rattle.std.specs.Prelude.{ℕ, List, [], slice_index_or}
use Rattle.tab_core.specs.declared.host.Host.{Host}
use Rattle.host_doc.specs.Document.{IsHostText}
use Rattle.vcpu_names.specs.Names.{names_of}
use Rattle.script_doc.specs.Statements.{statements_of}
use Rattle.script_doc.specs.Script.{IsScript}
use Rattle.script_doc.specs.ScriptFaults.{IsFirstFault}
use Rattle.script_doc.specs.declared.event.Event.{Event}
use Rattle.script_doc.specs.declared.script_fault.ScriptFault.{ScriptFault}
use Rattle.tableau_sim.specs.declared.status.Status.TheVariants as status
use Rattle.tableau_sim.specs.Outcomes.{CallOutcome}
use Rattle.tableau_sim.specs.Outcomes.CallOutcome.{Refuses}
use Rattle.tableau_sim.specs.Sections.{host_section}

-- the section of the script, which is the second, or the empty text if there is none
abbrev pub script_section : List (List ℕ) → List ℕ
script_section sections = slice_index_or sections 1 []

-- the first two sections are this host and this script of it, for a run of so many rounds
pub record HasScript (rounds : ℕ) (sections : List (List ℕ)) (host : Host) (events : List Event) : Type 0 where
  pub is_host : IsHostText (host_section sections) host
  pub is_script : IsScript (names_of host.vcpus) rounds (statements_of (script_section sections)) events

-- the second section is a script of the host, of which and of all sections the outcome is made; or its first fault
-- is refused
pub data OfScript (rounds : ℕ) (Makes : Host → List Event → List (List ℕ) → CallOutcome → Type 0) (host : Host)
    (sections : List (List ℕ)) : CallOutcome → Type 0 where
  Scripted : (events : List Event) (outcome : CallOutcome)
      → IsScript (names_of host.vcpus) rounds (statements_of (script_section sections)) events
      → Makes host events sections outcome → OfScript rounds Makes host sections outcome
  BadScript : (fault : ScriptFault)
      → IsFirstFault (names_of host.vcpus) rounds (statements_of (script_section sections)) fault
      → OfScript rounds Makes host sections (Refuses (status.Script fault) [])
