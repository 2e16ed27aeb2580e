-- What each command makes of its input and of the seat: the seat's view before the call and after it.
use Rattle.std.specs.Prelude.{◌≡◌, ◌⊎◌, ℕ, List, []}
use Rattle.std.specs.Io.KnownBytes.{Consumes}
use Rattle.tab_core.specs.declared.host.Host.{Host}
use Rattle.tab_io.specs.Views.{SourceView}
use Rattle.tab_words.specs.Sections.{sections_of}
use Rattle.script_doc.specs.declared.event.Event.{Event}
use Rattle.table_form.specs.Running.Courses.{CourseView}
use Rattle.host_gen.specs.Generated.{IsGenerated}
use Rattle.tab_words.specs.declared.command.Command.{Command}
use Rattle.tab_words.specs.declared.command.Command.TheVariants as command
use Rattle.tab_words.specs.declared.command.RunMode.{RunMode}
use Rattle.tab_words.specs.declared.command.RunMode.TheVariants.{Live}
use Rattle.round_words.specs.declared.view.View.{View}
use Rattle.run_live.specs.LiveRuns.{RunsSoFar}
use Rattle.tableau_sim.specs.Commands.{Replies}
use Rattle.tableau_sim.specs.Frame.{Due}
use Rattle.tableau_sim.specs.Frame.Due.{LacksMemory}
use Rattle.tableau_sim.specs.Hosts.{OfHost}
use Rattle.tableau_sim.specs.Outcomes.{CallOutcome}
use Rattle.tableau_sim.specs.Outcomes.CallOutcome.{Refuses, Writes}
use Rattle.tableau_sim.specs.Run.{Runs, RunsWhole}
use Rattle.tableau_sim.specs.Scripts.{HasScript, OfScript}
use Rattle.tableau_sim.specs.Sections.{OfSections}
use Rattle.tableau_sim.specs.Selftest.{Selftests}

-- where a run is refused, it hasn't begun
abbrev pub IsStillIfRefused : View → View → CallOutcome → Type 0
IsStillIfRefused old new (Refuses refusal names) = new ≡ old
IsStillIfRefused old new (Writes text) = Unit {0}

-- the commands that start threads, and all others as without a seat
abbrev pub OnSeat : View → View → Command → List ℕ → CallOutcome → Type 0
OnSeat old new (command.Run rounds mode) input outcome =
    OfSections 2 (OfHost (OfScript rounds (Runs rounds mode new))) input outcome × IsStillIfRefused old new outcome
OnSeat old new (command.Selftest seed) input outcome =
    Selftests seed new outcome × IsStillIfRefused old new outcome
OnSeat old new other input outcome = Replies other input outcome × (new ≡ old)

-- what running out of memory leaves of a run of an input that began before its plans were made: the input has a
-- host and a script, which was run so far
pub record HasStopped (rounds : ℕ) (sections : List (List ℕ)) (view : View) : Type 0 where
  pub host : Host
  pub events : List Event
  pub script : HasScript rounds sections host events
  pub so_far : RunsSoFar rounds host events view

-- memory may run out for a run before it begins, and for one with `live` after that too
abbrev pub LeavesRun : ℕ → RunMode → View → View → List (List ℕ) → Type 0
LeavesRun rounds Live old new sections = (new ≡ old) ⊎ HasStopped rounds sections new
LeavesRun rounds mode old new sections = new ≡ old

-- the seat is as it was where no command came to its reply, but for a run that stopped
abbrev pub LeavesSeat : View → View → Due → List ℕ → Type 0
LeavesSeat old new (LacksMemory (command.Run rounds mode)) input =
    LeavesRun rounds mode old new (sections_of input)
LeavesSeat old new due input = new ≡ old

-- what `Ok` of `run` tells: the input has a host and a script, whose course was run as a whole
pub record HasRun (rounds : ℕ) (source source' : SourceView) (view : View) : Type 0 where
  pub input : List ℕ
  pub consumed : Consumes source.rest source'.rest input
  pub host : Host
  pub events : List Event
  pub course : CourseView
  pub script : HasScript rounds (sections_of input) host events
  pub whole : RunsWhole rounds host events course view

-- what `Ok` of `selftest` tells: the seed's host was run as a whole
pub record HasTested (seed : ℕ) (view : View) : Type 0 where
  pub host : Host
  pub course : CourseView
  pub is : IsGenerated seed 8 64 host
  pub whole : RunsWhole 4 host [] course view
