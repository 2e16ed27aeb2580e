-- What `ran` and `tested` of the call say has what they promise.
use Rattle.std.proofs.Common.{◌≡◌, ℕ, List, [], Result, Ok, Err, None, refl, ◌∙◌, arith}
use Rattle.std.specs.Prelude.{IfOk}
use Rattle.std.specs.Io.KnownBytes.{IsAtEnd}
use Rattle.std.specs.Result.{result_err}
use Rattle.std.proofs.lemmas.Option.{slice_get_within}
use Rattle.toml.specs.Data.{Items, Members}
use Rattle.tab_core.specs.declared.host.Host.{Host}
use Rattle.tab_core.specs.declared.vcpu.Vcpu.{Vcpu}
use Rattle.tab_io.specs.Views.{SourceView, SinkView}
use Rattle.tab_words.specs.declared.command.Command.TheVariants as called
use Rattle.tab_words.specs.declared.command.RunMode.{RunMode}
use Rattle.host_doc.specs.Document.{IsHostText, first_fault, members_fault}
use Rattle.host_doc.specs.KeyTable.{format_of, vcpus_of}
use Rattle.host_doc.specs.VcpuFaults.{vcpus_fault}
use Rattle.host_doc.specs.Vcpus.{AreVcpusOf}
use Rattle.host_doc.specs.declared.fault.HostFault.{HostFault}
use Rattle.host_doc.proofs.HostNames.{stated_names}
use Rattle.host_doc.proofs.OneHost.{all_tables, array_faultless, both_none}
use Rattle.script_doc.specs.declared.event.Event.{Event}
use Rattle.table_form.specs.Running.Courses.{CourseView}
use Rattle.plan_promises.proofs.RunPromisesLemmas.{run_promises}
use Rattle.round_words.specs.declared.view.View.{View}
use Rattle.run_state.specs.Readings.{state_of}
use Rattle.tableau_sim.proofs.ClausesLemmas.{WroteFor}
use Rattle.tableau_sim.specs.Promised.{HasRunAsPromised, HasTestedAsPromised, RanAsPromised, StatesHost}
use Rattle.tableau_sim.specs.Run.{RunsWhole}
use Rattle.tableau_sim.specs.Seats.{HasRun, HasTested, LeavesSeat, OnSeat}
use Rattle.tableau_sim.proofs.SeatsLemmas.{ran_told}

-- an array that states the vCPUs, each by a table of its number
record HasArray (found : Result Items HostFault) (vcpus : List Vcpu) : Type 0 where
  items : Items
  is : found ≡ Ok items
  faultless : vcpus_fault [] 0 items ≡ None
  are : AreVcpusOf items vcpus

-- a faultless array is there
array_of : (found : Result Items HostFault) (vcpus : List Vcpu) → result_err found ≡ None
    → members_fault found ≡ None → IfOk found (λ items. AreVcpusOf items vcpus) → HasArray found vcpus
array_of (Ok items) vcpus is_ok faultless are =
    record { items = items; is = refl; faultless = faultless; are = are }
array_of (Err fault) vcpus is_ok faultless are = absurd cc

-- a value without a fault is there
value_of : {X : Type 0} (found : Result X HostFault) → result_err found ≡ None → (value : X) × (found ≡ Ok value)
value_of (Ok value) is = (value, refl)
value_of (Err fault) is = absurd cc

-- the format of a faultless document is one that there is
format_taken : (members : Members) → first_fault members ≡ None → (number : ℕ) × (format_of members ≡ Ok number)
unfolding first_fault
format_taken members faultless =
    value_of (format_of members) (both_none (result_err (format_of members)) _ faultless).0

-- a document that stands for a host states it
states : (bytes : List ℕ) (host : Host) → IsHostText bytes host → StatesHost bytes host
states bytes host is =
    let faultless = array_faultless is.0 is.2.faultless in
    let array = array_of (vcpus_of is.0) host.vcpus faultless.0 faultless.1 is.2.vcpus in
    record {
      members = is.0;
      document = is.1;
      format = format_taken is.0 is.2.faultless;
      tick_ns = is.2.tick_ns;
      cores = is.2.cores;
      lag = is.2.lag;
      items = array.items;
      array = array.is;
      count = array.are.count;
      vcpus = λ v vcpu at.
          (let few = slice_get_within host.vcpus v vcpu at in
          let count = array.are.count in
          let here = all_tables [] 0 array.items array.faultless v (omega arith) in
          record { members = here.0; at = here.1; is = array.are.each v here.0 vcpu here.1 at });
      distinct = (stated_names bytes host is).distinct;
    }

-- a whole run is as promised
ran_whole : (rounds : ℕ) (host : Host) (events : List Event) (course : CourseView) (view : View)
    → RunsWhole rounds host events course view → RanAsPromised rounds host events view
ran_whole rounds host events course view whole =
    let run = run_promises rounds host events course (state_of course view) whole.course_is whole.course_kept
    whole.promises whole.complete in
    record {
      cores = whole.started.cores_are ∙ whole.course_is.cores;
      holds = whole.holds;
      course = course;
      hosts = run.hosts;
      history = run.history;
      promises = run.promises;
    }

-- a run of all that the source had is as promised
run_whole : (rounds : ℕ) (source source' : SourceView) (view : View) → IsAtEnd source'.rest
    → HasRun rounds source source' view → HasRunAsPromised rounds source source' view
run_whole rounds source source' view ended has = record {
  input = has.input;
  consumed = has.consumed;
  ended = ended;
  host = has.host;
  states = states _ has.host has.script.is_host;
  events = has.events;
  script = has.script.is_script;
  ran = ran_whole rounds has.host has.events has.course view has.whole;
}

-- the clause `promised` follows from `wrote`
pub run_promised : (old new : View) (words : List (List ℕ)) (rounds : ℕ) (mode : RunMode) (source source' : SourceView)
    (sink sink' : SinkView)
    → WroteFor (OnSeat old new) (LeavesSeat old new) words (called.Run rounds mode) source source' sink sink'
    → HasRunAsPromised rounds source source' new
run_promised old new words rounds mode source source' sink sink' wrote =
    run_whole rounds source source' new wrote.1.had.is_due.1.1
    (ran_told old new words rounds mode source source' sink sink' wrote)

-- that of `selftest` follows from `tested`
pub test_promised : (seed : ℕ) (view : View) → HasTested seed view → HasTestedAsPromised seed view
test_promised seed view has = record {
  host = has.host;
  is = has.is;
  ran = ran_whole 4 has.host [] has.course view has.whole;
}
