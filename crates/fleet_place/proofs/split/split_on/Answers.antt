use Rattle.std.proofs.Common.{◌≡◌, ap, subst, ◌∙◌}
use Rattle.sizes_doc.specs.SizedHost.{IsHostOfSizes}
use Rattle.fleet_place.specs.Held.{sizes_in}
use Rattle.fleet_place.proofs.split.split_on.Goals as goal

pub returns-in-Ok : goal.returns-in-Ok
returns-in-Ok c =
    let sizes : c.deref.result.now ≡ sizes_in c.args.host.now.vms =
    c.deref.ensures.value ∙ (c.in_ok-sizes.ensures ∙ ap sizes_in c.vms.ensures) in
    record {
      host = c.in-Ok.host;
      is = subst (λ n. IsHostOfSizes n c.args.policy.now.tick_ns (sizes_in c.args.host.now.vms) c.in-Ok.host)
          c.cores.ensures.value
          (subst (λ ss. IsHostOfSizes c.cores.result c.args.policy.now.tick_ns ss c.in-Ok.host) sizes c.in-Ok.ensures.host);
      count_is = c.in_ok-count_of-in-Ok.ensures;
    }
