-- What stops one command stops each: a section that is no host, or a host that can't be planned.
use Rattle.std.proofs.Common.{◌≡◌, ◌⊎◌, ℕ, List, [], Option, Err, refl, sym, subst, inl, inr}
use Rattle.tab_core.specs.declared.host.Host.{Host}
use Rattle.tab_core.specs.declared.over.Over.{Over}
use Rattle.period_choice.specs.declared.fault.TaskFault.{TaskFault}
use Rattle.period_choice.specs.declared.fault.TaskFault.TheVariants as lacks
use Rattle.plan_make.specs.declared.fault.PlanFault.{PlanFault}
use Rattle.plan_make.specs.declared.fault.PlanFault.TheVariants as fault
use Rattle.wrap_table.specs.declared.fault.WholeFault.{WholeFault}
use Rattle.wrap_table.specs.declared.fault.WholeFault.TheVariants as whole
use Rattle.vcpu_names.specs.Names.{names_of}
use Rattle.tableau_sim.specs.declared.reply.Stop.{Stop}
use Rattle.tableau_sim.specs.declared.reply.Stop.TheVariants as stop
use Rattle.tableau_sim.specs.declared.status.Status.TheVariants as status
use Rattle.tableau_sim.specs.Inside.Reply.{HasItsHost, Makes, names_in}
use Rattle.table_check.specs.declared.fault.CheckFault.{CheckFault}
use Rattle.table_check.specs.declared.fault.CheckFault.TheVariants as tables
use Rattle.script_doc.specs.declared.script_fault.ScriptFault.{ScriptFault}
use Rattle.script_doc.specs.declared.script_fault.ScriptFault.TheVariants as script
use Rattle.tableau_sim.specs.Hosts.{OfHost}
use Rattle.tableau_sim.specs.Hosts.OfHost.{BadHost, Hosted}
use Rattle.tableau_sim.specs.Plan.{HasNoPlan}
use Rattle.tableau_sim.specs.Scripts.{OfScript, script_section}
use Rattle.tableau_sim.specs.Scripts.OfScript.{BadScript}
use Rattle.period_choice.specs.Tasks.{IsFirstWithoutPeriod}
use Rattle.plan_make.specs.Planned.{IsFirstStayingWithoutRoom}
use Rattle.script_doc.specs.declared.event.Event.{Event}
use Rattle.tableau_sim.specs.declared.status.Status.{Status}
use Rattle.tableau_sim.specs.Outcomes.{CallOutcome}
use Rattle.tableau_sim.specs.Outcomes.CallOutcome.{Refuses}
use Rattle.host_doc.specs.Document.{IsHostText}
use Rattle.script_doc.specs.ScriptFaults.{IsFirstFault}
use Rattle.script_doc.specs.Statements.{statements_of}
use Rattle.tableau_sim.specs.Sections.{host_section}
use Rattle.tableau_sim.specs.Inside.Stops.{IsHostStop, IsScriptStop, check_stop, plan_stop, script_stop, tasks_stop, whole_stop}

-- a first section that is no host stops any command that is to read one
pub host_stopped : (Q : Host → List (List ℕ) → CallOutcome → Type 0) (sections : List (List ℕ)) (why : Stop)
    → IsHostStop (host_section sections) why → Makes (OfHost Q sections) (host_section sections) (Err why)
host_stopped Q sections stop.NoMemory h = tt {0}
host_stopped Q sections (stop.Refused (status.Host bad) host) h =
    (subst (λ o. OfHost Q sections (Refuses (status.Host bad) (names_in o))) (sym h.1) (BadHost bad h.0), tt {0})
host_stopped Q sections (stop.Refused other host) h = absurd h

-- where a host has no tasks, any command P that refuses it so makes the stop
pub tasks_stopped : (P : CallOutcome → Type 0) (section : List ℕ) (host : Host) (f : TaskFault)
    → ((vcpu : ℕ) → f ≡ lacks.NoPeriod vcpu → P (Refuses (status.NoPeriod vcpu) (names_of host.vcpus)))
    → Makes P section (Err (tasks_stop f host))
tasks_stopped P section host (lacks.NoPeriod vcpu) no_period = (no_period vcpu refl, tt {0})
tasks_stopped P section host lacks.NoMemory no_period = tt {0}

-- where a host has no plan, any command P that refuses it so makes the stop
pub plan_stopped : (P : CallOutcome → Type 0) (section : List ℕ) (homes : List (Option ℕ)) (host : Host) (f : PlanFault)
    → IsHostText section host → ((vcpu : ℕ) → f ≡ fault.NoPeriod vcpu → IsFirstWithoutPeriod host vcpu)
    → ((vcpu rest : ℕ) (over : List Over) → f ≡ fault.NoRoom vcpu rest over
    → IsFirstStayingWithoutRoom homes host vcpu rest over)
    → ((refusal : Status) → HasNoPlan homes host refusal → P (Refuses refusal (names_of host.vcpus)))
    → Makes P section (Err (plan_stop f host))
plan_stopped P section homes host (fault.NoPeriod vcpu) is no_period no_room refused =
    (refused (status.NoPeriod vcpu) (no_period vcpu refl), tt {0})
plan_stopped P section homes host (fault.NoRoom vcpu rest over) is no_period no_room refused =
    (refused (status.NoRoom vcpu rest over) (no_room vcpu rest over refl), is)
plan_stopped P section homes host fault.NoMemory is no_period no_room refused = tt {0}

-- where a host has no plan without room, the stop keeps the host
pub plan_keeps : (section : List ℕ) (host : Host) (f : PlanFault) → IsHostText section host
    → HasItsHost section (Err (plan_stop f host))
plan_keeps section host (fault.NoPeriod vcpu) is = tt {0}
plan_keeps section host (fault.NoRoom vcpu rest over) is = is
plan_keeps section host fault.NoMemory is = tt {0}

-- where a host has no plan of all cores together, any command P that refuses it so makes the stop
pub whole_stopped : (P : CallOutcome → Type 0) (section : List ℕ) (host : Host) (f : WholeFault)
    → ((vcpu : ℕ) → f ≡ whole.NoPeriod vcpu → P (Refuses (status.NoPeriod vcpu) (names_of host.vcpus)))
    → ((demand room : ℕ) → f ≡ whole.NoFit demand room → P (Refuses (status.NoFit demand room) []))
    → Makes P section (Err (whole_stop f host))
whole_stopped P section host (whole.NoPeriod vcpu) no_period no_fit = (no_period vcpu refl, tt {0})
whole_stopped P section host (whole.NoFit demand room) no_period no_fit = (no_fit demand room refl, tt {0})
whole_stopped P section host whole.NoMemory no_period no_fit = tt {0}

-- where tables are no plan, any command P that refuses them so makes the stop
pub check_stopped : (P : CallOutcome → Type 0) (section : List ℕ) (host : Host) (f : CheckFault) (what : Type 0)
    → (what → P (Refuses (status.CheckNo f) (names_of host.vcpus)))
    → (f ≡ tables.NoMemory) ⊎ what → Makes P section (Err (check_stop f host))
check_stopped P section host tables.NoMemory what faulty h = tt {0}
check_stopped P section host f what faulty (inl lacks) = absurd cc
check_stopped P section host f what faulty (inr h) = (faulty h, tt {0})

-- a section that is no script stops it
pub script_stops_it : (rounds : ℕ) (sections : List (List ℕ)) (host : Host) (f : ScriptFault)
    → IsHostText (host_section sections) host
    → (f ≡ script.NoMemory) ⊎ IsFirstFault (names_of host.vcpus) rounds (statements_of (script_section sections)) f
    → IsScriptStop rounds sections (script_stop f)
script_stops_it rounds sections host script.NoMemory is h = tt {0}
script_stops_it rounds sections host f is (inl lacks) = absurd cc
script_stops_it rounds sections host f is (inr faulty) = (host, is, faulty, refl)

-- first sections that are no host and script stop any command that is to read these
pub script_stopped : (rounds : ℕ) (Q : Host → List Event → List (List ℕ) → CallOutcome → Type 0)
    (sections : List (List ℕ)) (why : Stop) → IsScriptStop rounds sections why
    → Makes (OfHost (OfScript rounds Q) sections) (host_section sections) (Err why)
script_stopped rounds Q sections stop.NoMemory is = tt {0}
script_stopped rounds Q sections (stop.Refused (status.Host bad) host) is = (
  subst (λ o. OfHost (OfScript rounds Q) sections (Refuses (status.Host bad) (names_in o))) (sym is.1) (BadHost bad is.0),
  tt {0},
)
script_stopped rounds Q sections (stop.Refused (status.Script bad) named) is = (
  subst (λ o. OfHost (OfScript rounds Q) sections (Refuses (status.Script bad) (names_in o))) (sym is.3)
      (Hosted is.0 _ is.1 (BadScript bad is.2)),
  tt {0},
)
script_stopped rounds Q sections (stop.Refused other host) is = absurd is
