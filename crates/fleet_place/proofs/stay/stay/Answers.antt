use Rattle.std.proofs.Common.{◌++◌, ◌-◌, ap, arith, drop, length, length-drop, sym, ◌∙◌}
use Rattle.std.proofs.lemmas.List.{take_all}
use Rattle.fleet_place.proofs.TurnLemmas.{stays_first}
use Rattle.fleet_place.proofs.stay.stay.Goals as goal

pub returns : goal.returns
returns c = (
  drop c.in_ok-count.count c.as_slice-vms.result.now,
  c.in_ok-extend_from_slice.ensures.items
      ∙ ap (λ vms. c.args.moved.now.items ++ vms)
      (take_all (length c.as_slice-vms.result.now - c.in_ok-count.count)
      (drop c.in_ok-count.count c.as_slice-vms.result.now)
      (omega (arith, length-drop c.in_ok-count.count c.as_slice-vms.result.now))),
  stays_first c.args.policy.now c.args.group.now c.in_ok-host.host c.as_slice-vms.result.now c.in_ok-count.count
      (sym c.as_slice-vms.ensures.value) c.in_ok-count.ensures.within c.in_ok-host.ensures
      c.in_ok-count.ensures.fits c.in_ok-count.ensures.longest,
)
