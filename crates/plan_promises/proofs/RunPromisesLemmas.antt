-- A whole run that keeps the invariant, on a course of a host and a script, keeps what a run promises.
use Rattle.std.proofs.Common.{◌≡◌, ℕ, ◌/◌, List, Some, slice_get, subst, arith}
use Rattle.tab_core.specs.declared.TheConstants.{ROUND}
use Rattle.tab_core.specs.declared.host.Host.{Host}
use Rattle.tab_core.specs.declared.stint.Stint.{Stint}
use Rattle.table_form.specs.Running.Courses.{CourseView, IsCourse}
use Rattle.table_form.specs.Running.Complete.{IsComplete}
use Rattle.table_form.specs.Running.Invariant.{StateInvariant}
use Rattle.table_form.specs.Promises.Run.{KeepsPromises}
use Rattle.table_form.specs.Running.State.{CoreState, IsCore, State}
use Rattle.table_form.specs.Promises.Together.{Covers}
use Rattle.script_doc.specs.declared.event.Event.{Event}
use Rattle.plan_book.specs.Courses.{IsCourseOf}
use Rattle.run_promises.proofs.ChoiceLemmas.{stint_within}
use Rattle.run_promises.proofs.OneTableLemmas.{complete_counts}
use Rattle.plan_promises.specs.RunPromises.{IsPromisedRun}
use Rattle.plan_promises.proofs.HistoriesLemmas.{history, hosts_of}
use Rattle.plan_promises.proofs.RunsLemmas.{run_shares, run_sold, run_waits}

-- at each tick of a stint its count is that of the tick's round
one_plan : (course : CourseView) (rounds : ℕ) (s : State) → StateInvariant course rounds s
    → (c x : ℕ) (core : CoreState) (st : Stint) → IsCore s c core → Covers core x st
    → slice_get s.decided (x / ROUND) ≡ Some st.used
one_plan course rounds s kept c x core st at covers =
    let stints = (kept.cores c core at).stints in
    let within = stint_within course c _ st x (stints.each covers.place st covers.at).dispatch covers.begun
    covers.going in
    subst (λ r. slice_get s.decided r ≡ Some st.used) within.round
    ((kept.table.cores c core at).stints covers.place st covers.at)

-- a whole run keeps its promises by the hosts that its events make
pub run_promises : (rounds : ℕ) (host : Host) (events : List Event) (course : CourseView) (s : State)
    → IsCourseOf host events course → IsCourse course → KeepsPromises course rounds s → IsComplete course rounds s
    → IsPromisedRun rounds host events course s
run_promises rounds host events course s of ok promises complete =
    record {
      hosts = hosts_of host events course of;
      history = history host events course of ok;
      promises = record {
        whole = complete.clocks;
        in_time = λ c core at. (promises.invariant.cores c core at).timeline.contiguous;
        some_ticks = λ c k core st at has. ((promises.invariant.cores c core at).timeline.each k st has).some_ticks;
        entered = complete_counts course rounds s ok promises.invariant complete;
        counts = λ r d at.
            (let posted = promises.invariant.decided_posted r d at in
            let most = promises.invariant.posted_most in
            omega arith);
        rises = promises.one_table.rises;
        fresh = promises.invariant.fresh;
        one_plan = one_plan course rounds s promises.invariant;
        one_core = promises.one_core;
        shares = run_shares host events course rounds s of promises;
        sold = run_sold host events course rounds s of promises;
        waits = run_waits host events course rounds s of promises;
        seen = λ c k core st at found.
            (let stint = (promises.invariant.cores c core at).stints.each k st found in
            let posted = stint.seen_posted in
            let most = promises.invariant.posted_most in
            (omega (arith, posted, most), stint.fresh));
        seen_rises = λ c j k core st su at. (promises.invariant.cores c core at).stints.risen j k st su;
        work_conserving = promises.work_conserving;
        caps = promises.caps;
      };
    }
