-- What making a plan from old homes answers, by its outcome.
use Rattle.std.proofs.Common.{◌≡◌, ℕ, List, Option, Ok, Err, refl, ap, subst}
use Rattle.tab_core.specs.declared.host.Host.{Host}
use Rattle.tab_core.specs.declared.over.Over.{Over}
use Rattle.tab_core.specs.declared.periodic.Periodic.{Periodic}
use Rattle.table_form.specs.Tables.Plans.{IsPlanFor}
use Rattle.table_form.specs.Tables.Views.{plan_view}
use Rattle.table_form.specs.declared.plan.Plan.{Plan}
use Rattle.period_choice.specs.Tasks.{AreTasksOf}
use Rattle.period_choice.proofs.Unique.{tasks_unique}
use Rattle.worst_fit.specs.Bound.{IsWithinBound}
use Rattle.cd_split.specs.declared.fault.SplitFault.{SplitFault}
use Rattle.cd_split.specs.declared.fault.SplitFault.TheVariants.{NoMemory, NoRoom}
use Rattle.plan_make.specs.Faults.{fault_of_split}
use Rattle.plan_make.specs.Inside.Splits.{IsLayoutFault}
use Rattle.plan_make.specs.Inside.StayingAnswer.{IsStayingAnswer}
use Rattle.plan_make.specs.Planned.{IsFirstStayingWithoutRoom, IsStayingPlan}
use Rattle.plan_make.specs.declared.fault.PlanFault.TheVariants as plan
use Rattle.plan_make.proofs.OnePlan.{no_memory_for_layout, staying_or_refused, staying_unique}
use Rattle.plan_make.proofs.StayingHomes.{plan_leaves_for_need, plan_stays}

-- a plan that was made
pub answer_of_plan : (old_homes : List (Option ℕ)) (host : Host) (made : Plan)
    → IsStayingPlan old_homes host (plan_view made) → IsPlanFor host (plan_view made)
    → IsStayingAnswer old_homes host (Ok made)
answer_of_plan old_homes host made is fits = record {
  ok = is;
  only = λ other of_other. staying_unique old_homes host other (plan_view made) of_other is;
  fits_host = fits;
  chosen = is.layout.is_start.tasks_are;
  stay = plan_stays old_homes host (plan_view made) is;
  need = plan_leaves_for_need old_homes host (plan_view made) is;
  no_room = λ vcpu rest over same. absurd (cc);
  without_room = λ vcpu rest over first.
      absurd (staying_or_refused old_homes host (plan_view made) vcpu rest over is first);
  bound = λ tasks are within. tt {0};
  planned = λ other of_other. tt {0};
}

-- the vCPU without room of a layout that was refused is the first
first_of_fault : (old_homes : List (Option ℕ)) (host : Host) (fault : SplitFault)
    → IsLayoutFault old_homes host fault → (vcpu rest : ℕ) (over : List Over)
    → fault_of_split fault ≡ plan.NoRoom vcpu rest over
    → IsFirstStayingWithoutRoom old_homes host vcpu rest over
first_of_fault old_homes host (NoRoom v r o) told vcpu rest over same =
    let same_vcpu : v ≡ vcpu = cc in
    let same_rest : r ≡ rest = cc in
    let same_over : o ≡ over = cc in
    subst (λ o. IsFirstStayingWithoutRoom old_homes host vcpu rest o) same_over
    (subst (λ r. IsFirstStayingWithoutRoom old_homes host vcpu r o) same_rest
    (subst (λ v. IsFirstStayingWithoutRoom old_homes host v r o) same_vcpu told))
first_of_fault old_homes host NoMemory told vcpu rest over same = absurd (cc)

-- a layout that was refused, since a vCPU has no room or memory ran out
pub answer_of_fault : (old_homes : List (Option ℕ)) (host : Host) (tasks : List (Option Periodic))
    (fault : SplitFault) → AreTasksOf host tasks → IsLayoutFault old_homes host fault
    → (IsWithinBound tasks host.cores → fault ≡ NoMemory)
    → IsStayingAnswer old_homes host (Err (fault_of_split fault))
answer_of_fault old_homes host tasks fault are told bound = record {
  ok = tt {0};
  only = tt {0};
  fits_host = tt {0};
  chosen = tt {0};
  stay = tt {0};
  need = tt {0};
  no_room = λ vcpu rest over same. first_of_fault old_homes host fault told vcpu rest over (cc);
  without_room = λ vcpu rest over first. refl;
  bound = λ others of_host within. ap fault_of_split (bound (subst (λ ts. IsWithinBound ts host.cores)
      (tasks_unique host others tasks of_host are) within));
  planned = λ other of_other. no_memory_for_layout old_homes host other fault of_other told;
}

-- a plan that memory didn't suffice for
pub answer_of_memory : (old_homes : List (Option ℕ)) (host : Host) (tasks : List (Option Periodic))
    → AreTasksOf host tasks → IsStayingAnswer old_homes host (Err plan.NoMemory)
answer_of_memory old_homes host tasks are =
    answer_of_fault old_homes host tasks NoMemory are (tt {0}) (λ within. refl)
