-- What is between reading and writing: the reply to the words.
use Rattle.std.specs.Prelude.{◌≡◌, ◌≢◌, ℕ, ◌+◌, ◌<◌, ◌≤◌, ◌^◌, true, List, [], ◌++◌, codes, length, Option, Some, None, Result, Ok, Err}
use Rattle.std.specs.Io.KnownBytes.{Consumes, IsAtEnd}
use Rattle.tab_core.specs.declared.host.Host.{Host}
use Rattle.host_doc.specs.Document.{IsHostText}
use Rattle.tab_io.specs.FaultCounts.{Rose}
use Rattle.tab_io.specs.Views.{SinkView, SourceView}
use Rattle.tab_words.specs.Commands.{IsGenerable, IsRoundCount}
use Rattle.tab_words.specs.Sections.{sections_of}
use Rattle.tab_words.specs.declared.command.Command.{Command}
use Rattle.tab_words.specs.declared.command.Command.TheVariants as command
use Rattle.tab_words.specs.declared.command.RunMode.{RunMode}
use Rattle.tab_words.specs.declared.command.RunMode.TheVariants.{Burst}
use Rattle.table_form.specs.Tables.Plans.{IsPlanFor}
use Rattle.table_form.specs.Tables.Views.{plan_view}
use Rattle.vcpu_names.specs.Names.{names_of}
use Rattle.plan_text.specs.PlanText.{plan_text}
use Rattle.host_gen.specs.HostText.{AreAdmitted, host_text}
use Rattle.replay_text.specs.ReplayText.{replay_text}
use Rattle.step_machine.specs.Traces.{AreOfCourse}
use Rattle.round_words.specs.declared.view.View.{View}
use Rattle.trace_report.specs.ReportText.{report_text}
use Rattle.burst_bound.specs.ScriptBursts.{bursts_of}
use Rattle.run_course.specs.RunText.{run_text}
use Rattle.run_course.specs.Runs.{IsRunWritable, kept_stints}
use Rattle.run_live.specs.LiveRuns.{IsLiveRunWritable}
use Rattle.tableau_sim.specs.declared.commands.run.Ready.{Ready}
use Rattle.tableau_sim.specs.declared.help.TheConstants.{HELP, VERSION}
use Rattle.tableau_sim.specs.declared.reply.Stop.{Stop}
use Rattle.tableau_sim.specs.declared.reply.Stop.TheVariants as stop
use Rattle.tableau_sim.specs.declared.reply.Text.{Text}
use Rattle.tableau_sim.specs.declared.reply.Text.TheVariants as written
use Rattle.tableau_sim.specs.declared.status.Status.{Status}
use Rattle.tableau_sim.specs.declared.status.Status.TheVariants as status
use Rattle.tableau_sim.specs.declared.input.TheConstants.{INPUT_LIMIT}
use Rattle.tableau_sim.specs.Clauses.{HandsHost}
use Rattle.tableau_sim.specs.Frame.{Answers, Due, IsDue, outcome_of}
use Rattle.tableau_sim.specs.Inside.Running.{IsReady, head_of}
use Rattle.tableau_sim.specs.Outcomes.{CallOutcome}
use Rattle.tableau_sim.specs.Outcomes.CallOutcome.{Refuses, Writes}
use Rattle.tableau_sim.specs.Sections.{host_section}

-- the bytes of a text
abbrev pub bytes_of : Text → List ℕ
bytes_of written.Help = HELP.now
bytes_of written.Version = VERSION.now
bytes_of (written.Plan host plan) = plan_text (names_of host.vcpus) (plan_view plan)
bytes_of (written.Same text) = text.items
bytes_of written.Checked = codes "ok\n"
bytes_of (written.Generated host) = host_text host
bytes_of (written.Replay host book trace) =
    replay_text (names_of host.vcpus) book.course trace.made trace.posted
bytes_of (written.Run rounds mode prepared bursts ran) =
    head_of prepared.now.seed mode prepared.now.host prepared.now.script bursts.answers
    ++ run_text mode prepared.now.host prepared.now.changes.items ran.crew.course rounds (kept_stints ran) ran.report
bytes_of (written.RunBeside rounds host ran) =
    report_text host ran.changes (length ran.book.course.ticks) rounds ran.report

-- a plan in a text is one for its host, a generated host's vCPUs are admitted, a trace is of the book's
-- course, and a report tells of its host's vCPUs and cores and of its script's bursts, so that they can be written
abbrev pub IsWritable : Text → Type 0
IsWritable (written.Plan host plan) = IsPlanFor host (plan_view plan)
IsWritable (written.Generated host) = AreAdmitted host.vcpus
IsWritable (written.Replay host book trace) = AreOfCourse book.course trace.made
IsWritable (written.Run rounds mode prepared bursts ran) = IsRunWritable mode prepared.now.host ran
    × (mode ≡ Burst → length bursts.answers ≡ length (bursts_of prepared.now.script))
IsWritable (written.RunBeside rounds host ran) = IsLiveRunWritable host ran
IsWritable text = Unit {0}

-- the names that a refusal may need
abbrev pub names_in : Option Host → List (List ℕ)
names_in None = []
names_in (Some host) = names_of host.vcpus

-- a refusal for room has the host of this section
abbrev pub KeepsHost : List ℕ → Status → Option Host → Type 0
KeepsHost section (status.NoRoom vcpu rest over) None = ⊥
KeepsHost section (status.NoRoom vcpu rest over) (Some host) = IsHostText section host
KeepsHost section refusal host = Unit {0}

-- a reply that refuses for room has the host of this section
abbrev pub HasItsHost : List ℕ → Result Text Stop → Type 0
HasItsHost section (Ok text) = Unit {0}
HasItsHost section (Err (stop.Refused refusal host)) = KeepsHost section refusal host
HasItsHost section (Err stop.NoMemory) = Unit {0}

-- the reply is an outcome of which P holds, and can be written, or has the host of this section if it refuses for
-- room; or memory ran out
abbrev pub Makes : (CallOutcome → Type 0) → List ℕ → Result Text Stop → Type 0
Makes P section (Ok text) = P (Writes (bytes_of text)) × IsWritable text
Makes P section (Err (stop.Refused refusal host)) =
    P (Refuses refusal (names_in host)) × KeepsHost section refusal host
Makes P section (Err stop.NoMemory) = Unit {0}

-- the reply of a run is an outcome of which P holds, and leaves the seat's view as it was if that is a refusal; or
-- memory ran out, which leaves Q
abbrev pub MakesOnSeat : (CallOutcome → Type 0) → Type 0 → View → View → Result Text Stop → Type 0
MakesOnSeat P Q old new (Ok text) = P (Writes (bytes_of text)) × IsWritable text
MakesOnSeat P Q old new (Err (stop.Refused refusal host)) = P (Refuses refusal (names_in host)) × (new ≡ old)
MakesOnSeat P Q old new (Err stop.NoMemory) = Q

-- the outcome that a reply stands for
abbrev pub outcome_in : Result Text Stop → CallOutcome
outcome_in (Ok text) = Writes (bytes_of text)
outcome_in (Err (stop.Refused refusal host)) = Refuses refusal (names_in host)
outcome_in (Err stop.NoMemory) = Refuses status.NoMemory []

-- the host that a reply has, if it refuses with one
abbrev pub host_in : Result Text Stop → Option Host
host_in (Ok text) = None
host_in (Err (stop.Refused refusal host)) = host
host_in (Err stop.NoMemory) = None

-- the host that is handed on where the call ends with this status: that of a refusal for room
abbrev pub handed : Status → Option Host → Option Host
handed (status.NoRoom vcpu rest over) host = host
handed told host = None

abbrev pub CanBeWritten : Result Text Stop → Type 0
CanBeWritten (Ok text) = IsWritable text
CanBeWritten (Err why) = Unit {0}

-- what was read, and that the reply is due after it
pub record IsReplyTo (R : Command → List ℕ → CallOutcome → Type 0) (Leaves : Due → List ℕ → Type 0)
    (words : List (List ℕ)) (old new : SourceView) (reply : Result Text Stop) : Type 0 where
  pub input : List ℕ
  pub consumed : Consumes old.rest new.rest input
  pub later : old.faults ≤ new.faults
  pub due : Due
  pub is_due : IsDue R Leaves words old new input due
  pub same : outcome_of due ≡ outcome_in reply
  pub writable : CanBeWritten reply
  pub has_host : HasItsHost (host_section (sections_of input)) reply

-- the whole call, and the host that it hands on
pub record AnswersWith (R : Command → List ℕ → CallOutcome → Type 0) (Leaves : Due → List ℕ → Type 0)
    (words : List (List ℕ)) (source source' : SourceView) (sink sink' : SinkView) (told : Status)
    (host : Option Host) : Type 0 where
  pub answers : Answers R Leaves words source source' sink sink' told
  pub hands : HandsHost R Leaves words source source' told host

-- this is the whole input, within the limit
pub record HasInput (old new : SourceView) (input : List ℕ) : Type 0 where
  pub consumed : Consumes old.rest new.rest input
  pub later : old.faults ≤ new.faults
  pub short : length input ≤ INPUT_LIMIT
  pub ended : IsAtEnd new.rest

-- all is ready for a run of the whole input
pub record IsReadyTo (rounds : ℕ) (mode : RunMode) (old new : SourceView) (made : Ready) : Type 0 where
  pub input : List ℕ
  pub has : HasInput old new input
  pub is : IsReady rounds mode input made

-- after these bytes the source failed, or it gave too many of them, or memory ran out
pub data HasNoInput (old new : SourceView) (input : List ℕ) : Stop → Type 0 where
  Failed : length input ≤ INPUT_LIMIT → Rose old.faults new.faults → (old.sound ≡ true → ⊥)
      → HasNoInput old new input (stop.Refused status.ReadFault None)
  TooLong : length input ≡ INPUT_LIMIT + 1 → HasNoInput old new input (stop.Refused status.TooLong None)
  Lacks : HasNoInput old new input stop.NoMemory

-- each command that reads must reply so
pub record StopsReading (old new : SourceView) (why : Stop) : Type 0 where
  pub input : List ℕ
  pub consumed : Consumes old.rest new.rest input
  pub later : old.faults ≤ new.faults
  pub why_is : HasNoInput old new input why

-- the input has another number of sections than is wanted
pub record IsOff (wanted : ℕ) (input : List ℕ) (why : Stop) : Type 0 where
  pub off : length (sections_of input) ≢ wanted
  pub why_is : why ≡ stop.Refused (status.BadSections (length (sections_of input)) wanted) None

-- what the numbers of a command keep
abbrev pub HasGoodNumbers : Command → Type 0
HasGoodNumbers (command.Replay rounds) = IsRoundCount rounds
HasGoodNumbers (command.Run rounds mode) = IsRoundCount rounds
HasGoodNumbers (command.Gen seed cores vcpus) = IsGenerable seed cores vcpus
HasGoodNumbers (command.Selftest seed) = seed < 2 ^ 64
HasGoodNumbers other = Unit {0}
