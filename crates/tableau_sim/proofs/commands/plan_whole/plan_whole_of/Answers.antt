use Rattle.std.proofs.Common.{ap, Err}
use Rattle.plan_promises.proofs.ReservationsLemmas.{kept_by_rows}
use Rattle.tableau_sim.specs.Hosts.OfHost.{Hosted}
use Rattle.tableau_sim.specs.Inside.Stops.{whole_stop}
use Rattle.tableau_sim.specs.PlanWhole.{PlansWhole}
use Rattle.tableau_sim.specs.Sections.{host_section}
use Rattle.tableau_sim.proofs.ReplyLemmas.{made_of_host}
use Rattle.tableau_sim.proofs.StopsLemmas.{host_stopped, whole_stopped}
use Rattle.tableau_sim.proofs.commands.plan_whole.plan_whole_of.Goals as goal

pub returns-in-Err : goal.returns-in-Err
returns-in-Err g c = host_stopped PlansWhole _ _ (rw c.part.ensures at c.in-Err.ensures.stop)

pub returns-in-Ok-plan_whole : goal.returns-in-Ok-plan_whole
returns-in-Ok-plan_whole g c = (
  Hosted c.in-Ok.host _ (rw c.part.ensures at c.in-Ok.ensures.ok) (PlansWhole.Planned _ (record {
    planned = c.in-Ok-plan_whole.ensures.ok;
    keeps = record {
      serves = c.in-Ok-plan_whole.plan.serves;
      apart = c.in-Ok-plan_whole.plan.apart;
      housed = c.in-Ok-plan_whole.plan.housed;
      owned = c.in-Ok-plan_whole.plan.owned;
      exact = c.in-Ok-plan_whole.plan.exact;
    };
    is_for = c.in-Ok-plan_whole.ensures.fits_host;
    reservations = kept_by_rows c.in-Ok.host _ c.in-Ok-plan_whole.ensures.ok.tasks c.in-Ok-plan_whole.plan.serves
        c.in-Ok-plan_whole.plan.apart;
  })),
  c.in-Ok-plan_whole.ensures.fits_host,
)

pub returns : goal.returns
returns g c =
    let is = rw c.part.ensures at c.in-Ok.ensures.ok in
    rw c.stop_of_whole.ensures (made_of_host PlansWhole c.args.sections.now c.in-Ok.host
    (Err (whole_stop c.in-Err-plan_whole.fault c.in-Ok.host)) is
    (whole_stopped (PlansWhole c.in-Ok.host c.args.sections.now) (host_section c.args.sections.now)
    c.in-Ok.host c.in-Err-plan_whole.fault
    (λ vcpu e. PlansWhole.NoPeriod vcpu (c.in-Err-plan_whole.ensures.no_period vcpu (ap Err e)))
    (λ demand room e. PlansWhole.NoFit demand room (c.in-Err-plan_whole.ensures.no_fit demand room (ap Err e)))))
