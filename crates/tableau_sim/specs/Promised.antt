-- What `Ok` of `run` and of `selftest` promises to whoever was sold a vCPU, and no more. Which plans the run had,
-- why a change was refused and what is written, `ran`, `tested` and `wrote` of the call say.
use Rattle.std.specs.Prelude.{◌≡◌, ℕ, List, [], Some, Ok, length, slice_get}
use Rattle.std.specs.Io.KnownBytes.{Consumes, IsAtEnd}
use Rattle.toml.specs.Data.{table, get_item, Items, Members}
use Rattle.tab_core.specs.Vcpus.{HaveDistinctNames}
use Rattle.tab_core.specs.declared.host.Host.{Host}
use Rattle.tab_core.specs.declared.vcpu.Vcpu.{Vcpu}
use Rattle.tab_io.specs.Views.{SourceView}
use Rattle.tab_words.specs.Sections.{sections_of}
use Rattle.host_doc.specs.Array.{count_of}
use Rattle.host_doc.specs.Document.{IsDocument}
use Rattle.host_doc.specs.KeyTable.{cores_of, format_of, lag_of, tick_of, vcpus_of}
use Rattle.host_doc.specs.Vcpus.{IsVcpuOf}
use Rattle.script_doc.specs.Script.{IsScript}
use Rattle.script_doc.specs.Statements.{statements_of}
use Rattle.script_doc.specs.declared.event.Event.{Event}
use Rattle.vcpu_names.specs.Names.{names_of}
use Rattle.table_form.specs.Running.Courses.{CourseView}
use Rattle.plan_promises.specs.Histories.{IsHistory}
use Rattle.plan_promises.specs.RunPromises.{RunPromises}
use Rattle.host_gen.specs.Generated.{IsGenerated}
use Rattle.round_words.specs.declared.view.View.{View}
use Rattle.run_state.specs.Readings.{state_of}
use Rattle.run_state.specs.RunViews.{HoldsAllParts}
use Rattle.tableau_sim.specs.Scripts.{script_section}
use Rattle.tableau_sim.specs.Sections.{host_section}

-- the member of this number is a table that states the vCPU
pub record HasMember (items : Items) (number : ℕ) (vcpu : Vcpu) : Type 0 where
  pub members : Members
  pub at : get_item number items ≡ Some (table members)
  pub is : IsVcpuOf number members vcpu

-- the bytes are a document of a format that there is, and it states the host: its tick, its cores, its lag and its
-- vCPUs by number, of which no two have one name; what it says of `sliver` and `quantum` is no matter here
pub record StatesHost (bytes : List ℕ) (host : Host) : Type 0 where
  pub members : Members
  pub document : IsDocument bytes members
  pub format : (number : ℕ) × (format_of members ≡ Ok number)
  pub tick_ns : tick_of members ≡ Ok host.tick_ns
  pub cores : cores_of members ≡ Ok host.cores
  pub lag : lag_of members ≡ Ok host.lag
  pub items : Items
  pub array : vcpus_of members ≡ Ok items
  pub count : length host.vcpus ≡ count_of items
  pub vcpus : (v : ℕ) (vcpu : Vcpu) → slice_get host.vcpus v ≡ Some vcpu → HasMember items v vcpu
  pub distinct : HaveDistinctNames host.vcpus

-- the view has the part of each of the host's cores, the events make some hosts of this one, and read as a state on
-- some course the view is a whole run of so many rounds that keeps what these hosts promise
pub record RanAsPromised (rounds : ℕ) (host : Host) (events : List Event) (view : View) : Type 0 where
  pub cores : view.cores ≡ host.cores
  pub holds : HoldsAllParts view
  pub course : CourseView
  pub hosts : ℕ → Host
  pub history : IsHistory host events hosts course
  pub promises : RunPromises rounds hosts host.tick_ns course (state_of course view)

-- what `Ok` of `run` promises: the source gave all its bytes, and they state a host and a script of it, which was run
-- as promised
pub record HasRunAsPromised (rounds : ℕ) (source source' : SourceView) (view : View) : Type 0 where
  pub input : List ℕ
  pub consumed : Consumes source.rest source'.rest input
  pub ended : IsAtEnd source'.rest
  pub host : Host
  pub states : StatesHost (host_section (sections_of input)) host
  pub events : List Event
  pub script : IsScript (names_of host.vcpus) rounds (statements_of (script_section (sections_of input))) events
  pub ran : RanAsPromised rounds host events view

-- what `Ok` of `selftest` promises: the seed's host of 8 cores and 64 vCPUs was run as promised, for 4 rounds
pub record HasTestedAsPromised (seed : ℕ) (view : View) : Type 0 where
  pub host : Host
  pub is : IsGenerated seed 8 64 host
  pub ran : RanAsPromised 4 host [] view
