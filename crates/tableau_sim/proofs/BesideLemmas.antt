-- A run whose changes are planned beside it: what is written of it, and what it leaves.
use Rattle.std.proofs.Common.{◌≡◌, ℕ, List, [], length, Result, Err, sym, ap, ◌∙◌, subst, inl, inr}
use Rattle.std.proofs.lemmas.List.{length-map}
use Rattle.tab_core.specs.declared.host.Host.{Host}
use Rattle.tab_words.specs.declared.command.RunMode.{RunMode}
use Rattle.tab_words.specs.declared.command.RunMode.TheVariants.{Live}
use Rattle.host_doc.specs.Document.{IsHostText}
use Rattle.script_doc.specs.declared.event.Event.{Event}
use Rattle.table_form.specs.Promises.Run.{KeepsPromises}
use Rattle.plan_book.specs.declared.outcome.Outcome.{Outcome as PlanOutcome}
use Rattle.plan_promises.proofs.RunsLemmas.{run_keeps}
use Rattle.round_words.specs.declared.view.View.{View}
use Rattle.round_words.specs.Views.{unstarted}
use Rattle.run_state.specs.Readings.{state_of}
use Rattle.trace_report.specs.ReportText.{report_text}
use Rattle.trace_report.specs.RunReports.{core_ticks}
use Rattle.run_live.specs.declared.ran.LiveFault.{LiveFault}
use Rattle.run_live.specs.declared.ran.LiveFault.TheVariants.{NotBegun, Stopped}
use Rattle.run_live.specs.LiveRuns.{CannotBePlanned, IsLiveRunOf, IsLiveRunWritable, LeavesView, LiveRanView}
use Rattle.tableau_sim.specs.declared.commands.run.Ready.TheVariants as readied
use Rattle.tableau_sim.specs.declared.reply.Stop.{Stop}
use Rattle.tableau_sim.specs.declared.reply.Text.{Text}
use Rattle.tableau_sim.specs.Inside.Reply.{HasItsHost, MakesOnSeat}
use Rattle.tableau_sim.specs.Inside.Running.{IsReadyOf, RunsSections}
use Rattle.tableau_sim.specs.Inside.Stops.{live_stop, plan_stop}
use Rattle.tableau_sim.specs.Outcomes.CallOutcome.{Writes}
use Rattle.tableau_sim.specs.Scripts.{HasScript}
use Rattle.tableau_sim.specs.Run.{Runs, RunsWhole}
use Rattle.tableau_sim.specs.Seats.{LeavesRun}
use Rattle.tableau_sim.specs.Sections.{host_section}
use Rattle.tableau_sim.proofs.RunLemmas.{run_of_script, stops_on_seat}
use Rattle.tableau_sim.proofs.StopsLemmas.{plan_keeps, plan_stopped}

module _ (rounds : ℕ) (host : Host) (events : List Event) (view : View) (ran : LiveRanView) (is : IsLiveRunOf rounds host events view ran) where
  promises : KeepsPromises ran.book.course rounds (state_of ran.book.course view)
  promises = is.so_far.promises ran.book.course is.course_kept is.book.course

  -- it can be written
  pub told_live : IsLiveRunWritable host ran
  told_live = record {
    each_vcpu = is.report.is.each_vcpu ∙ sym is.vcpus;
    each_core = ap length is.report.is.cores ∙ (length-map is.report.accounts core_ticks
        ∙ (is.report.are.size ∙ (promises.invariant.size ∙ is.book.course.cores)));
  }

  -- it is a whole run
  whole_live : RunsWhole rounds host events ran.book.course view
  whole_live =
      let of = is.book.course in
      let begun = is.so_far.started in record {
        course_is = of;
        course_kept = is.course_kept;
        started = record {
          started = begun.started;
          lag_is = begun.lag_is ∙ sym of.lag;
          cores_are = begun.cores_are ∙ sym of.cores;
          events_are = begun.events_are ∙ (sym (length-map events (λ (event : Event). event.tick)) ∙ sym (ap length of.ticks));
        };
        holds = is.so_far.holds;
        promises = promises;
        reservations = run_keeps host events ran.book.course rounds (state_of ran.book.course view) of promises;
        complete = is.complete;
      }

  -- the report of a whole run is what `run` with `live` writes
  pub ran_live : (sections : List (List ℕ)) → HasScript rounds sections host events → RunsSections rounds Live view sections
      (Writes (report_text host ran.changes (length ran.book.course.ticks) rounds ran.report))
  ran_live sections script =
      subst (λ (changes : List (ℕ × PlanOutcome)). RunsSections rounds Live view sections
      (Writes (report_text host changes (length ran.book.course.ticks) rounds ran.report))) (sym is.changes)
      (run_of_script rounds Live view sections host events _ script (Runs.Ran ran.book ran.report [] is.book whole_live
      (λ bound long. (let asked = long.asked in absurd cc)) is.report (λ asked. absurd cc)))

-- without a report it didn't begin, or it stopped
pub left_live : (rounds : ℕ) (old new : View) (sections : List (List ℕ)) (host : Host) (events : List Event)
    (fault : LiveFault) → HasScript rounds sections host events → old ≡ unstarted → LeavesView rounds host events fault new
    → MakesOnSeat (RunsSections rounds Live new sections) (LeavesRun rounds Live old new sections) old new
    (Err (live_stop fault host))
left_live rounds old new sections host events (NotBegun fault) script first left =
    let same : new ≡ old = left.0 ∙ sym first in
    stops_on_seat (RunsSections rounds Live new sections) (LeavesRun rounds Live old new sections) (host_section sections) old new
    (plan_stop fault host) same (inl same)
    (plan_stopped (RunsSections rounds Live new sections) (host_section sections) [] host fault script.is_host
    (λ vcpu e. subst (CannotBePlanned host) e left.1) (λ vcpu rest over e. subst (CannotBePlanned host) e left.1)
    (λ refusal lacks. run_of_script rounds Live new sections host events _ script (Runs.Unplanned refusal lacks)))
left_live rounds old new sections host events Stopped script first left =
    inr (record { host = host; events = events; script = script; so_far = left })

-- where it didn't begin without room, it keeps its host
pub live_keeps : (section : List ℕ) (host : Host) (fault : LiveFault) → IsHostText section host
    → HasItsHost section (Err (live_stop fault host))
live_keeps section host (NotBegun fault) is = plan_keeps section host fault is
live_keeps section host Stopped is = tt {0}

-- what is made of a run that was planned beside its cores is what `run` makes of the sections
pub beside_reply : (rounds : ℕ) (mode : RunMode) (old new : View) (sections : List (List ℕ)) (host : Host)
    (events : List Event) (reply : Result Text Stop) → IsReadyOf rounds mode sections (readied.Beside host events)
    → MakesOnSeat (RunsSections rounds Live new sections) (LeavesRun rounds Live old new sections) old new reply
    → MakesOnSeat (RunsSections rounds mode new sections) (LeavesRun rounds mode old new sections) old new reply
beside_reply rounds mode old new sections host events reply is makes =
    subst (λ m. MakesOnSeat (RunsSections rounds m new sections) (LeavesRun rounds m old new sections) old new reply) (sym is.0) makes
