use Rattle.std.proofs.Common.{ap, Err}
use Rattle.plan_promises.proofs.ReservationsLemmas.{kept_by_rows}
use Rattle.tableau_sim.specs.Plan.{PlansFrom}
use Rattle.tableau_sim.specs.PlanStay.{PlansAnew}
use Rattle.tableau_sim.specs.Sections.{host_section}
use Rattle.tableau_sim.proofs.StopsLemmas.{plan_stopped}
use Rattle.tableau_sim.proofs.commands.plan_stay.plan_anew.Goals as goal

pub returns-in-Err-BadLine : goal.returns-in-Err-BadLine
returns-in-Err-BadLine c =
    rw (c.stopped.ensures, c.in-Err-BadLine.field-0-is) (
      PlansAnew.BadLine c.in-Err-BadLine.line
          (rw c.part.ensures at (c.in-Err-BadLine.ensures.bad_line c.in-Err-BadLine.line (ap Err c.in-Err-BadLine.field-0-is))),
      tt {0},
    )

pub returns-in-Ok-plan_staying : goal.returns-in-Ok-plan_staying
returns-in-Ok-plan_staying c = (
  PlansAnew.Stays _ _ (rw c.part.ensures at c.in-Ok.ensures.ok) (PlansFrom.Planned _ (record {
    planned = rw c.deref.ensures.value at c.in-Ok-plan_staying.ensures.ok;
    keeps = record {
      serves = c.in-Ok-plan_staying.plan.serves;
      apart = c.in-Ok-plan_staying.plan.apart;
      housed = c.in-Ok-plan_staying.plan.housed;
      owned = c.in-Ok-plan_staying.plan.owned;
      exact = c.in-Ok-plan_staying.plan.exact;
    };
    is_for = c.in-Ok-plan_staying.ensures.fits_host;
    reservations = kept_by_rows c.args.host _ c.in-Ok-plan_staying.ensures.chosen c.in-Ok-plan_staying.plan.serves
        c.in-Ok-plan_staying.plan.apart;
  })),
  c.in-Ok-plan_staying.ensures.fits_host,
)

pub returns : goal.returns
returns c =
    let old = rw c.part.ensures at c.in-Ok.ensures.ok in
    let homes = c.in-Ok.homes.items in
    rw c.stop_of_plan.ensures
    (plan_stopped (PlansAnew c.args.host c.args.sections.now) (host_section c.args.sections.now) homes
    c.args.host c.in-Err.fault c.requires.is_host
    (λ vcpu e. c.in-Err.ensures.no_period vcpu (ap Err e))
    (λ vcpu rest over e. rw c.deref.ensures.value at
    (c.in-Err.ensures.no_room vcpu rest over (ap Err e)))
    (λ refusal lacks. PlansAnew.Stays homes _ old (PlansFrom.Unplanned refusal lacks)))
