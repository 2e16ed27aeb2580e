use Rattle.std.proofs.Common.{◌≡◌, ◌≤◌, ap, arith, get_or, length, sym, ◌∙◌}
use Rattle.std.proofs.lemmas.List.Sums.{sum_by_more}
use Rattle.fleet_place.specs.Held.{Held, load_of_vms, vcpu_count_of}
use Rattle.fleet_place.proofs.HeldLemmas.{length_count}
use Rattle.fleet_place.proofs.write.put_fleet.Goals as goal

pub loop-host-preserved : goal.loop-host-preserved
loop-host-preserved g c =
    let held = c.host-item.result in
    let hosts = c.args.hosts.now in
    let i = c.loop-host.host-index in
    let is : get_or hosts i held ≡ held = sym c.host-item.is in
    let low = c.loop-host-test.true in
    let was = c.loop-host.invariant in
    let cores_of : c.from.result ≡ held.cores = c.from.ensures ∙ c.cores.ensures.value in
    let vms_of : length c.vms.result.now ≡ length held.vms = ap length c.vms.ensures in
    let vcpus_of : c.from-in-loop-host.result ≡ vcpu_count_of held.vms = c.from-in-loop-host.ensures ∙ c.vcpus.ensures.value in
    let load : c.load.result ≡ load_of_vms held.vms = c.load.ensures.value in
    let at_least : length held.vms ≤ vcpu_count_of held.vms = length_count held.vms in
    let some = c.cores.ensures.some in
    let few = c.cores.ensures.few in
    let cores_value = c.cores.ensures.value in
    let few_vcpus = c.vcpus.ensures.few in
    let vcpus_value = c.vcpus.ensures.value in
    let within = c.load.ensures.within in
    let was_cores = was.cores in
    let was_vms = was.vms in
    let was_vcpus = was.vcpus in
    let was_load = was.load in
    let was_some = was.some in
    let was_few_cores = was.few_cores in
    let was_few_vms = was.few_vms in
    let was_few_vcpus = was.few_vcpus in
    let was_much = was.much in
    record {
      cores = omega (arith, was_cores, cores_of, sum_by_more (λ (h : Held). h.cores) hosts i held low, ap (λ (h : Held). h.cores) is);
      vms = omega (arith, was_vms, vms_of, sum_by_more (λ (h : Held). length h.vms) hosts i held low, ap (λ (h : Held). length h.vms) is);
      vcpus = omega (arith, was_vcpus, vcpus_of, sum_by_more (λ (h : Held). vcpu_count_of h.vms) hosts i held low, ap (λ (h : Held). vcpu_count_of h.vms) is);
      load = omega (arith, was_load, load, sum_by_more (λ (h : Held). load_of_vms h.vms) hosts i held low, ap (λ (h : Held). load_of_vms h.vms) is);
      split = was.split;
      some = omega (arith, was_some, some, cores_of, cores_value);
      few_cores = omega (arith, was_few_cores, few, cores_of, cores_value);
      few_vms = omega (arith, was_few_vms, vms_of, vcpus_of, at_least);
      few_vcpus = omega (arith, was_few_vcpus, few_vcpus, vcpus_of, vcpus_value);
      much = omega (arith, was_much, within, cores_of);
    }
