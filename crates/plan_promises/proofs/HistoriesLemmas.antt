-- The hosts of a run on a course are those that its events make of the first.
use Rattle.std.proofs.Common.{◌≡◌, ◌≤◌, inl, inr, ℕ, suc, List, Some, length, min, slice_get, refl, ap, subst, ◌∙◌, arith}
use Rattle.std.proofs.Math.Nat.{min-eq_left, min-le_right}
use Rattle.std.proofs.lemmas.List.{length-map}
use Rattle.std.proofs.lemmas.Option.{get_or_from_slice_get, slice_get_within}
use Rattle.tab_core.specs.declared.host.Host.{Host}
use Rattle.tab_core.proofs.Lists.{element_at, same}
use Rattle.table_form.specs.Running.Courses.{CourseView, IsCourse, no_plan, plan_after, plan_number_after, runnable_after}
use Rattle.script_doc.specs.declared.event.Act.{Act}
use Rattle.script_doc.specs.declared.event.Act.TheVariants.{Wake, Block, Change, Burst}
use Rattle.script_doc.specs.declared.event.Event.{Event}
use Rattle.plan_book.specs.After.{Applies}
use Rattle.plan_book.specs.Courses.{IsCourseOf, ShowsAfter}
use Rattle.plan_book.specs.States.{BookState}
use Rattle.plan_book.proofs.OneState.{known_unique}
use Rattle.plan_book.proofs.PlannedAfter.{course_capped}
use Rattle.plan_promises.specs.Histories.{AreHostsOf, Follows, IsHistory, IsPlanOn}

-- the host after each count of events, and beyond the last that of the last
abbrev pub hosts_of : (host : Host) (events : List Event) (course : CourseView) → IsCourseOf host events course
    → ℕ → Host
hosts_of host events course of n =
    (of.after (min n (length events)) (min-le_right n (length events))).known.host

-- what the course shows after a count, of which this is the host
pub record HasHost (host : Host) (events : List Event) (course : CourseView) (n : ℕ) (then : Host) : Type 0 where
  pub after : ShowsAfter host events course n
  pub host_is : then ≡ after.known.host

-- the host after a count of events is that of what the course shows
pub has_host : (host : Host) (events : List Event) (course : CourseView) (of : IsCourseOf host events course) (n : ℕ)
    → n ≤ length events → HasHost host events course n (hosts_of host events course of n)
has_host host events course of n le =
    subst (λ m. HasHost host events course m (hosts_of host events course of n)) (min-eq_left le)
    (record { after = of.after (min n (length events)) (min-le_right n (length events)); host_is = refl })

-- the hosts are the known ones
pub known_hosts : (host : Host) (events : List Event) (course : CourseView) (of : IsCourseOf host events course)
    → AreHostsOf host events (hosts_of host events course of)
known_hosts host events course of n le =
    let has = has_host host events course of n le in (has.after.known, has.after.is, has.host_is)

-- what an event makes of what is known, of the host and the runnable vCPUs alone
follows : (before : BookState) (act : Act) (next : BookState) → Applies before act next
    → Follows act before.host before.runnable next.host next.runnable
follows before (Wake vcpu) next is = (ap (λ (k : BookState). k.host) is, ap (λ (k : BookState). k.runnable) is)
follows before (Block vcpu) next is = (ap (λ (k : BookState). k.host) is, ap (λ (k : BookState). k.runnable) is)
follows before (Change edits) next (inl taken) = (inl taken.edited, taken.runnable)
follows before (Change edits) next (inr refused) =
    (inr (ap (λ (k : BookState). k.host) refused.becomes), ap (λ (k : BookState). k.runnable) refused.becomes)
follows before (Burst vcpu work) next is =
    (ap (λ (k : BookState). k.host) is, ap (λ (k : BookState). k.runnable) is)

-- an event of the script leads from what is known before it to what is known after
applied_at : (host : Host) (events : List Event) (course : CourseView) (n : ℕ) (event : Event)
    → (a : ShowsAfter host events course n) → (b : ShowsAfter host events course (suc n))
    → slice_get events n ≡ Some event → Applies a.known event.act b.known
applied_at host events course n event a b at =
    let is = b.is in
    let before = known_unique host events n is.0 a.known is.2 a.is in
    let event_is = same _ is.1 event is.3 at in
    subst (λ (e : Event). Applies a.known e.act b.known) event_is
    (subst (λ k. Applies k is.1.act b.known) before is.4)

-- hosts and runnable vCPUs follow each other so
each_follows : (host : Host) (events : List Event) (course : CourseView) (of : IsCourseOf host events course)
    (n : ℕ) (event : Event) → slice_get events n ≡ Some event
    → Follows event.act (hosts_of host events course of n) (runnable_after course n)
    (hosts_of host events course of (suc n)) (runnable_after course (suc n))
each_follows host events course of n event at =
    let few = slice_get_within events n event at in
    let a = has_host host events course of n (omega arith) in
    let b = has_host host events course of (suc n) (omega arith) in
    rw (a.host_is, b.host_is, a.after.shows.runnable, b.after.shows.runnable)
    (follows a.after.known event.act b.after.known (applied_at host events course n event a.after b.after at))

-- each plan of a course is one on its host
plan_on : (host : Host) (events : List Event) (course : CourseView) (n : ℕ) → IsCourseOf host events course
    → IsCourse course → n ≤ length events → IsPlanOn host (plan_after course n)
plan_on host events course n of ok le =
    let count = ap length of.ticks ∙ length-map events (λ (event : Event). event.tick) in
    let found = element_at course.plans (plan_number_after course n) (ok.form.planned n (omega arith)) in
    let same_plan = get_or_from_slice_get course.plans (plan_number_after course n) found.0 no_plan found.1 in
    record {
      rows = ap (λ (p : _). length p.rows) same_plan
          ∙ (ok.form.in_rows (plan_number_after course n) found.0 found.1 ∙ of.cores);
      owned = rw same_plan (ok.plans_kept (plan_number_after course n) found.0 found.1).owned;
      housed = rw same_plan (ok.plans_kept (plan_number_after course n) found.0 found.1).housed;
      capped = course_capped host events course n of le;
    }

-- the hosts and the course are a history
pub history : (host : Host) (events : List Event) (course : CourseView) (of : IsCourseOf host events course)
    → IsCourse course → IsHistory host events (hosts_of host events course of) course
history host events course of ok =
    let first = has_host host events course of 0 (omega arith) in
    record {
      cores = of.cores;
      lag = of.lag;
      ticks = of.ticks;
      first = first.host_is ∙ first.after.is.host_is;
      runnable = first.after.shows.runnable ∙ first.after.is.runnable_is;
      each = each_follows host events course of;
      plans = λ n le. plan_on host events course n of ok le;
    }
