use Rattle.std.proofs.Common.{[], ap, Err}
use Rattle.plan_promises.proofs.ReservationsLemmas.{kept_by_rows}
use Rattle.tableau_sim.specs.Hosts.OfHost.{Hosted}
use Rattle.tableau_sim.specs.Inside.Stops.{plan_stop}
use Rattle.tableau_sim.specs.Plan.{Plans, PlansFrom}
use Rattle.tableau_sim.specs.Sections.{host_section}
use Rattle.tableau_sim.proofs.ReplyLemmas.{made_of_host}
use Rattle.tableau_sim.proofs.StopsLemmas.{host_stopped, plan_stopped}
use Rattle.tableau_sim.proofs.commands.plan.plan_of.Goals as goal

pub returns-in-Err : goal.returns-in-Err
returns-in-Err c = host_stopped Plans _ _ (rw c.part.ensures at c.in-Err.ensures.stop)

pub returns-in-Ok-plan : goal.returns-in-Ok-plan
returns-in-Ok-plan c = (
  Hosted c.in-Ok.host _ (rw c.part.ensures at c.in-Ok.ensures.ok) (PlansFrom.Planned _ (record {
    planned = c.in-Ok-plan.ensures.ok;
    keeps = record {
      serves = c.in-Ok-plan.plan.serves;
      apart = c.in-Ok-plan.plan.apart;
      housed = c.in-Ok-plan.plan.housed;
      owned = c.in-Ok-plan.plan.owned;
      exact = c.in-Ok-plan.plan.exact;
    };
    is_for = c.in-Ok-plan.ensures.fits_host;
    reservations = kept_by_rows c.in-Ok.host _ c.in-Ok-plan.ensures.chosen c.in-Ok-plan.plan.serves
        c.in-Ok-plan.plan.apart;
  })),
  c.in-Ok-plan.ensures.fits_host,
)

pub returns-in-Err-plan : goal.returns-in-Err-plan
returns-in-Err-plan c =
    let is = rw c.part.ensures at c.in-Ok.ensures.ok in
    rw c.stop_of_plan.ensures (made_of_host Plans c.args.sections.now c.in-Ok.host (Err (plan_stop c.in-Err-plan.fault c.in-Ok.host)) is
    (plan_stopped (Plans c.in-Ok.host c.args.sections.now) (host_section c.args.sections.now) [] c.in-Ok.host c.in-Err-plan.fault is
    (λ vcpu e. c.in-Err-plan.ensures.no_period vcpu (ap Err e))
    (λ vcpu rest over e. c.in-Err-plan.ensures.no_room vcpu rest over (ap Err e)) PlansFrom.Unplanned))
