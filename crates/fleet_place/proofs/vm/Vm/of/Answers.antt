use Rattle.std.proofs.Common.{refl}
use Rattle.fleet_place.proofs.vm.Vm.of.Goals as goal

pub returns-in-Some-clause-demand : goal.returns-in-Some-clause-demand
returns-in-Some-clause-demand c = record {
  task = c.in-Some.task;
  chosen = c.in-Some.ensures.chosen;
  is = rw (c.from.ensures, c.from-in-Some.ensures, c.demand_of.ensures.value) refl;
}
