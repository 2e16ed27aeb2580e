-- An input has one outcome: at each stage of a command one cause refuses it, or one thing is read of it.
use Rattle.std.proofs.Common.{◌≡◌, ◌≢◌, ℕ, List, [], length, codes, Option, refl, sym, ap, subst, ◌∙◌, Some, inl, inr, arith}
use Rattle.std.specs.Prelude.{slice_get}
use Rattle.std.proofs.lemmas.List.{length-map}
use Rattle.tab_core.specs.declared.host.Host.{Host}
use Rattle.tab_core.specs.declared.periodic.Periodic.{Periodic}
use Rattle.tab_core.specs.declared.vcpu.Vcpu.{Vcpu}
use Rattle.table_form.specs.Running.Courses.{CourseView}
use Rattle.table_form.specs.Running.State.{State, opening}
use Rattle.table_form.specs.declared.raw_tables.RawTables.{RawTables}
use Rattle.tab_words.specs.declared.command.Command.{Command}
use Rattle.tab_words.specs.declared.command.Command.TheVariants as called
use Rattle.tab_words.specs.Texts.{worded}
use Rattle.vcpu_names.specs.Names.{names_of}
use Rattle.host_doc.specs.Document.{IsHostText}
use Rattle.host_doc.proofs.HostNames.{stated_names}
use Rattle.period_choice.specs.Tasks.{AreTasksOf, IsFirstWithoutPeriod}
use Rattle.period_choice.proofs.Unique.{tasks_unique}
use Rattle.plan_make.specs.Planned.{IsStayingPlan}
use Rattle.plan_make.specs.declared.fault.PlanFault.{PlanFault}
use Rattle.plan_make.specs.declared.fault.PlanFault.TheVariants as planning
use Rattle.plan_make.proofs.OnePlan.{staying_unique}
use Rattle.plan_make.proofs.OneRefusal.{HasPlanFault, HasStayingFault, one_plan_fault, one_staying_fault, one_without_period, planned_or_fault, staying_or_fault}
use Rattle.period_choice.proofs.TasksLemmas.{none_without_period}
use Rattle.plan_text.specs.FirstBad.{IsFirstBadFor}
use Rattle.plan_text.specs.Meaning.{IsPlanText, IsSomePlan}
use Rattle.plan_text.specs.OldHomes.{AreOldHomes}
use Rattle.plan_text.specs.OldText.{IsSomeOldText}
use Rattle.plan_text.specs.PlanText.{plan_text}
use Rattle.plan_text.proofs.FirstBadLemmas.{no_text, one_bad}
use Rattle.plan_text.proofs.OldHomesLemmas.{one_old_homes}
use Rattle.plan_text.proofs.OneMeaning.{one_meaning}
use Rattle.plan_text.proofs.ReadingHeadLemmas.{names_of_host}
use Rattle.table_check.specs.Faults.{AreGood, HasCheckFault}
use Rattle.table_check.proofs.OneFault.{no_fault, one_fault as one_check_fault}
use Rattle.script_doc.specs.Script.{IsScript}
use Rattle.script_doc.specs.ScriptFaults.{IsFirstFault}
use Rattle.script_doc.specs.Statements.{statements_of}
use Rattle.script_doc.specs.declared.event.Event.{Event}
use Rattle.script_doc.specs.declared.step.Step.{Step}
use Rattle.script_doc.proofs.EventsLemmas.{distinct_names}
use Rattle.script_doc.proofs.OneScript.{fault_or_script, one_fault, one_script}
use Rattle.script_doc.proofs.OneStepList.{bad_or_steps, one_bad_line, one_step_list}
use Rattle.plan_book.proofs.OneCourse.{IsFormedCourseOf, one_course}
use Rattle.replay_text.specs.ReplayText.{replay_text}
use Rattle.step_machine.specs.Refusals.{IsRefused}
use Rattle.step_machine.specs.Traces.{IsTrace}
use Rattle.step_machine.specs.declared.answer.Answer.{Answer}
use Rattle.step_machine.specs.declared.trace.Made.{Made}
use Rattle.step_machine.proofs.OneRun.{one_refused, one_trace, refused_or_leads}
use Rattle.step_machine.proofs.TraceLemmas.{leads_of}
use Rattle.host_gen.specs.HostText.{host_text}
use Rattle.host_gen.proofs.GeneratedLemmas.{one_host as one_generated}
use Rattle.tableau_sim.specs.declared.status.Status.{Status}
use Rattle.tableau_sim.specs.declared.status.Status.TheVariants as status
use Rattle.tableau_sim.specs.Check.{Checks, plan_section}
use Rattle.tableau_sim.specs.Commands.{Replies}
use Rattle.tableau_sim.specs.Outcomes.{CallOutcome}
use Rattle.tableau_sim.specs.Outcomes.CallOutcome.{Refuses, Writes}
use Rattle.tableau_sim.specs.Gen.{Gens}
use Rattle.tableau_sim.specs.Hosts.{OfHost}
use Rattle.tableau_sim.specs.Plan.{HasNoPlan, Plans, PlansFrom}
use Rattle.tableau_sim.specs.PlanStay.{PlansAnew, PlansStaying}
use Rattle.tableau_sim.specs.PlanWhole.{PlansWhole}
use Rattle.tableau_sim.specs.Replay.{Replays, ReplaysSteps}
use Rattle.tableau_sim.specs.Scripts.{OfScript, script_section}
use Rattle.tableau_sim.specs.Scripts.OfScript.{BadScript, Scripted}
use Rattle.tableau_sim.specs.Sections.{host_section}
use Rattle.tableau_sim.proofs.Stages.{Ends, IsOne, Staged, one_end, one_of_host, one_of_sections, one_staged, same_pair}
use Rattle.tableau_sim.proofs.WholeOutcomes.{whole_only}

-- ---- plan

-- how a fault of planning is refused
abbrev plan_refusal : Host → PlanFault → CallOutcome
plan_refusal h (planning.NoPeriod vcpu) = Refuses (status.NoPeriod vcpu) (names_of h.vcpus)
plan_refusal h (planning.NoRoom vcpu rest over) = Refuses (status.NoRoom vcpu rest over) (names_of h.vcpus)
plan_refusal h planning.NoMemory = Refuses status.NoMemory []

-- why there is no plan, in the form in which planning says it
no_plan_fault : (homes : List (Option ℕ)) (h : Host) (refusal : Status) → HasNoPlan homes h refusal
    → (f : PlanFault) × HasStayingFault homes h f × (Refuses refusal (names_of h.vcpus) ≡ plan_refusal h f)
no_plan_fault homes h (status.NoPeriod vcpu) lacks = (planning.NoPeriod vcpu, lacks, refl)
no_plan_fault homes h (status.NoRoom vcpu rest over) lacks = (planning.NoRoom vcpu rest over, lacks, refl)
no_plan_fault homes h other lacks = absurd lacks

-- an outcome from old homes, by its stages
plan_stages : (homes : List (Option ℕ)) (h : Host) (o : CallOutcome) → PlansFrom homes h o
    → Ends (HasStayingFault homes h) (plan_refusal h) (IsStayingPlan homes h)
    (λ p. Writes (plan_text (names_of h.vcpus) p)) o
plan_stages homes h o (PlansFrom.Planned p has) = inr (p, has.planned, refl)
plan_stages homes h o (PlansFrom.Unplanned refusal lacks) = inl (no_plan_fault homes h refusal lacks)

-- a host makes one outcome from old homes
one_from : (homes : List (Option ℕ)) (h : Host) (a b : CallOutcome) → PlansFrom homes h a → PlansFrom homes h b
    → a ≡ b
one_from homes h a b of_a of_b =
    one_end _ (plan_refusal h) _ (λ p. Writes (plan_text (names_of h.vcpus) p)) a b (record {
      cause = one_staying_fault homes h;
      thing = staying_unique homes h;
      apart = λ f p bad planned. staying_or_fault homes h p f planned bad;
    }) (plan_stages homes h a of_a) (plan_stages homes h b of_b)

-- `plan` makes one outcome of its sections
plan_only : (s : List (List ℕ)) (a b : CallOutcome) → OfHost Plans s a → OfHost Plans s b → a ≡ b
plan_only s a b = one_of_host Plans s a b (λ h is. one_from [] h a b)

-- ---- plan stay

-- a text gives one list of old homes, or has one first bad line
one_old : (s : List (List ℕ)) (h : Host)
    → IsOne (IsFirstBadFor IsSomeOldText 1 (worded (plan_section s)))
    (AreOldHomes (names_of h.vcpus) (worded (plan_section s)))
one_old s h = record {
  cause = one_bad IsSomeOldText 1 _;
  thing = one_old_homes (names_of h.vcpus) (worded (plan_section s));
  apart = λ line homes bad old. no_text IsSomeOldText 1 _ line bad (old.vcpus, old.text);
}

-- one outcome is made anew of a host
anew_one : (s : List (List ℕ)) (h : Host) (a b : CallOutcome) → PlansAnew h s a → PlansAnew h s b → a ≡ b
anew_one s h a b (PlansAnew.Stays homes _ old p) (PlansAnew.Stays others _ also q) =
    one_from homes h a b p (subst (λ o. PlansFrom o h b) ((one_old s h).thing others homes also old) q)
anew_one s h a b (PlansAnew.Stays homes _ old p) (PlansAnew.BadLine line bad) =
    absurd ((one_old s h).apart line homes bad old)
anew_one s h a b (PlansAnew.BadLine line bad) (PlansAnew.Stays homes _ old p) =
    absurd ((one_old s h).apart line homes bad old)
anew_one s h a b (PlansAnew.BadLine line bad) (PlansAnew.BadLine other also) =
    ap (λ l. Refuses (status.BadPlanLine l) []) ((one_old s h).cause line other bad also)

-- `plan stay` makes one outcome of a host
stay_one : (s : List (List ℕ)) (h : Host) (a b : CallOutcome) → PlansStaying h s a → PlansStaying h s b → a ≡ b
stay_one s h a b (PlansStaying.Unchanged plan has) (PlansStaying.Unchanged other also) = refl
stay_one s h a b (PlansStaying.Unchanged plan has) (PlansStaying.Changed _ none made) =
    absurd (none plan has.planned)
stay_one s h a b (PlansStaying.Changed _ none made) (PlansStaying.Unchanged plan has) =
    absurd (none plan has.planned)
stay_one s h a b (PlansStaying.Changed _ none p) (PlansStaying.Changed _ also q) = anew_one s h a b p q

-- `plan stay` makes one outcome of its sections
pub stay_only : (s : List (List ℕ)) (a b : CallOutcome) → OfHost PlansStaying s a → OfHost PlansStaying s b → a ≡ b
stay_only s a b = one_of_host PlansStaying s a b (λ h is. stay_one s h a b)

-- ---- check

-- what `check` makes of tables
abbrev OfTables : Host → List (Option Periodic) → RawTables → CallOutcome → Type 0
OfTables h t raw = Ends (HasCheckFault t raw.rows) (λ f. Refuses (status.CheckNo f) (names_of h.vcpus))
    (λ (_ : Unit {0}). AreGood t raw.rows) (λ _. Writes (codes "ok\n"))

-- what `check` makes of tasks
abbrev OfTasks : List (List ℕ) → Host → List (Option Periodic) → CallOutcome → Type 0
OfTasks s h t =
    Staged (IsFirstBadFor (IsSomePlan (names_of h.vcpus) h.cores t) 1 (worded (plan_section s)))
    (λ line. Refuses (status.BadPlanLine line) [])
    (IsPlanText (names_of h.vcpus) h.cores t (plan_section s)) (OfTables h t)

-- what `check` makes of a host
abbrev OfCheckedHost : List (List ℕ) → Host → CallOutcome → Type 0
OfCheckedHost s h = Staged (IsFirstWithoutPeriod h)
    (λ vcpu. Refuses (status.NoPeriod vcpu) (names_of h.vcpus)) (AreTasksOf h) (OfTasks s h)

-- an outcome of `check`, by its stages
check_stages : (s : List (List ℕ)) (h : Host) (o : CallOutcome) → Checks h s o → OfCheckedHost s h o
check_stages s h o (Checks.Passes t r has good) =
    inr (t, has.are_tasks, inr (r, has.text, inr (tt, good, refl)))
check_stages s h o (Checks.NoPeriod vcpu lacks) = inl (vcpu, lacks, refl)
check_stages s h o (Checks.BadLine t line are bad) = inr (t, are, inl (line, bad, refl))
check_stages s h o (Checks.BadTables t r f has faulty) =
    inr (t, has.are_tasks, inr (r, has.text, inl (f, faulty, refl)))

-- a text has one meaning for tasks, or one first bad line
one_text : (s : List (List ℕ)) (h : Host) (t : List (Option Periodic)) → IsHostText (host_section s) h
    → AreTasksOf h t
    → IsOne (IsFirstBadFor (IsSomePlan (names_of h.vcpus) h.cores t) 1 (worded (plan_section s)))
    (IsPlanText (names_of h.vcpus) h.cores t (plan_section s))
one_text s h t is are =
    let stated = stated_names _ h is in
    let many : length (names_of h.vcpus) ≡ length t =
    length-map h.vcpus (λ (x : Vcpu). x.name) ∙ sym are.as_many in
    record {
      cause = one_bad _ 1 _;
      thing = λ raw other. one_meaning (names_of h.vcpus) h.cores t (worded (plan_section s)) raw other many
          h.few_cores (names_of_host h.vcpus stated.good stated.distinct);
      apart = λ line raw bad text. no_text _ 1 _ line bad (record { raw = raw; text = text });
    }

-- `check` makes one outcome of its sections
pub check_only : (s : List (List ℕ)) (a b : CallOutcome) → OfHost Checks s a → OfHost Checks s b → a ≡ b
check_only s a b = one_of_host Checks s a b (λ h is of_a of_b.
    one_staged _ _ _ (OfTasks s h) a b (record {
      cause = one_without_period h;
      thing = tasks_unique h;
      apart = λ vcpu t lacks are. none_without_period h t vcpu are lacks;
    }) (λ t are.
    one_staged _ _ _ (OfTables h t) a b (one_text s h t is are) (λ raw text.
    one_end _ _ _ (λ (_ : Unit {0}). Writes (codes "ok\n")) a b (record {
      cause = one_check_fault t raw.rows;
      thing = λ x y good also. refl;
      apart = λ f x bad good. no_fault t raw.rows f good bad;
    }))) (check_stages s h a of_a) (check_stages s h b of_b))

-- ---- replay

-- the step on the line is refused in a run of the course
abbrev IsRefusedOn : ℕ → List Step → List ℕ → CourseView → ℕ × Answer → Type 0
IsRefusedOn rounds steps lines course at = (place : ℕ) × (slice_get lines place ≡ Some at.0)
    × IsRefused course rounds steps place at.1

-- the steps lead to this state and make this
abbrev IsRunOf : ℕ → List Step → CourseView → State × List Made → Type 0
IsRunOf rounds steps course run = IsTrace course rounds (opening course.cores) steps run.0 run.1

-- the text of that
abbrev run_text : Host → CourseView → State × List Made → CallOutcome
run_text h course run = Writes (replay_text (names_of h.vcpus) course run.1 run.0.posted)

-- what `replay` makes of a course
abbrev OfCourse : ℕ → Host → List Step → List ℕ → CourseView → CallOutcome → Type 0
OfCourse rounds h steps lines course = Ends (IsRefusedOn rounds steps lines course)
    (λ at. Refuses (status.StepRefused at.0 at.1) []) (IsRunOf rounds steps course) (run_text h course)

-- what `replay` makes of steps
abbrev OfSteps : ℕ → Host → List Event → List Step → List ℕ → CallOutcome → Type 0
OfSteps rounds h events steps lines = Staged (HasPlanFault h) (plan_refusal h) (IsFormedCourseOf h events)
    (OfCourse rounds h steps lines)

-- an outcome of steps, by its stages
steps_stages : (rounds : ℕ) (h : Host) (events : List Event) (steps : List Step) (lines : List ℕ) (o : CallOutcome)
    → ReplaysSteps rounds h events steps lines o → OfSteps rounds h events steps lines o
steps_stages rounds h events steps lines o (ReplaysSteps.Replayed course state made run) = inr (
  course,
  record { is = run.course_is; form = run.course_kept.form },
  inr ((state, made), run.trace, refl),
)
steps_stages rounds h events steps lines o (ReplaysSteps.Unplanned refusal lacks) =
    inl (no_plan_fault [] h refusal lacks)
steps_stages rounds h events steps lines o (ReplaysSteps.StepRefused place line answer at off) = inr (
  off.course,
  record { is = off.course_is; form = off.course_kept.form },
  inl ((line, answer), (place, at, off.refused), refl),
)

-- a script is one, or its fault
one_script_stage : (rounds : ℕ) (s : List (List ℕ)) (h : Host) → IsHostText (host_section s) h
    → IsOne (IsFirstFault (names_of h.vcpus) rounds (statements_of (script_section s)))
    (IsScript (names_of h.vcpus) rounds (statements_of (script_section s)))
one_script_stage rounds s h is =
    let distinct = distinct_names h.vcpus (stated_names _ h is).distinct in
    record {
      cause = λ f g. one_fault _ rounds _ f g distinct;
      thing = λ events others. one_script _ rounds _ events others distinct;
      apart = λ f events. fault_or_script _ rounds _ f events distinct;
    }

-- a plan is known before the first event, so there is a course or a fault of planning
one_course_stage : (h : Host) (events : List Event) → IsOne (HasPlanFault h) (IsFormedCourseOf h events)
one_course_stage h events = record {
  cause = one_plan_fault h;
  thing = one_course h events;
  apart = λ f course bad of.
      let first = of.is.after 0 (omega arith) in
      planned_or_fault h first.known.plan f first.is.planned bad;
}

-- a run of a course is one, or its refusal
one_run : (rounds : ℕ) (steps : List Step) (lines : List ℕ) (course : CourseView)
    → IsOne (IsRefusedOn rounds steps lines course) (IsRunOf rounds steps course)
one_run rounds steps lines course = record {
  cause = λ at other off also.
      let same = one_refused course rounds steps off.0 also.0 at.1 other.1 off.2 also.2 in
      let here = subst (λ k. slice_get lines k ≡ Some at.0) same.0 off.1 in
      let there = also.1 in
      let line : at.0 ≡ other.0 = cc in
      same_pair at other line same.1;
  thing = λ run other trace also.
      let same = one_trace course rounds (opening course.cores) steps run.0 other.0 run.1 other.1
      trace also in
      same_pair run other same.0 same.1;
  apart = λ at run off trace. refused_or_leads course rounds steps off.0 at.1 run.0 off.2
      (leads_of course rounds (opening course.cores) steps run.0 run.1 trace);
}

-- steps make one outcome
one_of_steps : (rounds : ℕ) (h : Host) (events : List Event) (steps : List Step) (lines : List ℕ) (a b : CallOutcome)
    → ReplaysSteps rounds h events steps lines a → ReplaysSteps rounds h events steps lines b → a ≡ b
one_of_steps rounds h events steps lines a b of_a of_b =
    one_staged _ (plan_refusal h) _ (OfCourse rounds h steps lines) a b (one_course_stage h events)
    (λ course formed. one_end _ _ _ (run_text h course) a b (one_run rounds steps lines course))
    (steps_stages rounds h events steps lines a of_a) (steps_stages rounds h events steps lines b of_b)

-- a host and a script make one outcome of the steps' section
one_of_listed : (rounds : ℕ) (h : Host) (events : List Event) (s : List (List ℕ)) (a b : CallOutcome)
    → Replays rounds h events s a → Replays rounds h events s b → a ≡ b
one_of_listed rounds h events s a b (Replays.Listed steps lines _ are p) (Replays.Listed others more _ also q) =
    let same = one_step_list h.cores _ others steps more lines h.few_cores also are in
    one_of_steps rounds h events steps lines a b p (subst (λ l. ReplaysSteps rounds h events steps l b) same.1
    (subst (λ l. ReplaysSteps rounds h events l more b) same.0 q))
one_of_listed rounds h events s a b (Replays.Listed steps lines _ are p) (Replays.BadStep line bad) =
    absurd (bad_or_steps h.cores _ line steps lines bad are)
one_of_listed rounds h events s a b (Replays.BadStep line bad) (Replays.Listed steps lines _ are p) =
    absurd (bad_or_steps h.cores _ line steps lines bad are)
one_of_listed rounds h events s a b (Replays.BadStep line bad) (Replays.BadStep other also) =
    ap (λ l. Refuses (status.BadStep l) []) (one_bad_line h.cores _ line other bad also)

-- a host makes one outcome of the section of the script
one_of_script : (rounds : ℕ) (Q : Host → List Event → List (List ℕ) → CallOutcome → Type 0) (s : List (List ℕ))
    (h : Host) (a b : CallOutcome) → IsHostText (host_section s) h
    → ((events : List Event) → Q h events s a → Q h events s b → a ≡ b)
    → OfScript rounds Q h s a → OfScript rounds Q h s b → a ≡ b
one_of_script rounds Q s h a b is each (Scripted events _ script p) (Scripted others _ also q) =
    each events p (subst (λ e. Q h e s b) ((one_script_stage rounds s h is).thing others events also script) q)
one_of_script rounds Q s h a b is each (Scripted events _ script p) (BadScript f bad) =
    absurd ((one_script_stage rounds s h is).apart f events bad script)
one_of_script rounds Q s h a b is each (BadScript f bad) (Scripted events _ script p) =
    absurd ((one_script_stage rounds s h is).apart f events bad script)
one_of_script rounds Q s h a b is each (BadScript f bad) (BadScript g also) =
    ap (λ fault. Refuses (status.Script fault) []) ((one_script_stage rounds s h is).cause f g bad also)

-- `replay` makes one outcome of its sections
replay_only : (rounds : ℕ) (s : List (List ℕ)) (a b : CallOutcome) → OfHost (OfScript rounds (Replays rounds)) s a
    → OfHost (OfScript rounds (Replays rounds)) s b → a ≡ b
replay_only rounds s a b = one_of_host (OfScript rounds (Replays rounds)) s a b (λ h is.
    one_of_script rounds (Replays rounds) s h a b is (λ events. one_of_listed rounds h events s a b))

-- ---- the law

-- a seed makes one text
gen_only : (seed cores vcpus : ℕ) (a b : CallOutcome) → Gens seed cores vcpus a → Gens seed cores vcpus b → a ≡ b
gen_only seed cores vcpus a b (Gens.Generated h is) (Gens.Generated other also) =
    ap (λ g. Writes (host_text g)) (one_generated seed cores vcpus h other is also)

-- each command but `plan whole` has one outcome of an input
pub one_outcome : (command : Command) (input : List ℕ) (one other : CallOutcome) → command ≢ called.PlanWhole
    → Replies command input one → Replies command input other → one ≡ other
one_outcome called.Help input one other single = λ p q. p ∙ sym q
one_outcome called.Version input one other single = λ p q. p ∙ sym q
one_outcome called.Plan input one other single =
    one_of_sections 1 (OfHost Plans) input one other (plan_only _ one other)
one_outcome called.PlanWhole input one other single = absurd (single refl)
one_outcome called.PlanStay input one other single =
    one_of_sections 2 (OfHost PlansStaying) input one other (stay_only _ one other)
one_outcome called.Check input one other single =
    one_of_sections 2 (OfHost Checks) input one other (check_only _ one other)
one_outcome (called.Replay rounds) input one other single =
    one_of_sections 3 (OfHost (OfScript rounds (Replays rounds))) input one other (replay_only rounds _ one other)
one_outcome (called.Gen seed cores vcpus) input one other single = gen_only seed cores vcpus one other
one_outcome (called.Run rounds mode) input one other single = λ p q. absurd p
one_outcome (called.Selftest seed) input one other single = λ p q. absurd p

-- each input that is refused has no other outcome
pub one_refusal : (command : Command) (input : List ℕ) (refusal : Status) (names : List (List ℕ))
    (other : CallOutcome) → Replies command input (Refuses refusal names) → Replies command input other
    → Refuses refusal names ≡ other
one_refusal called.PlanWhole input refusal names other p q =
    one_of_sections 1 (OfHost PlansWhole) input _ other (whole_only _ refusal names other) p q
one_refusal command input refusal names other p q = one_outcome command input _ other (λ same. absurd cc) p q
