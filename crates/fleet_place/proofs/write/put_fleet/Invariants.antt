use Rattle.std.proofs.Common.{◌≡◌, ◌*◌, ◌≤◌, length, take}
use Rattle.std.specs.List.{sum_by}
use Rattle.tab_core.specs.declared.TheConstants.{MAX_CORES, MAX_VCPUS, ROUND}
use Rattle.fleet_place.specs.Held.{Held, load_of_vms, vcpu_count_of}
use Rattle.fleet_place.proofs.write.put_fleet.Given as goal

-- the sums of the hosts so far, and how large they are
abbrev pub invariant-loop-host : goal.invariant-loop-host
invariant-loop-host g l = record {
  cores : l.all.cores ≡ sum_by (λ (held : Held). held.cores) (take l.host-index l.hosts);
  vms : l.all.vms ≡ sum_by (λ (held : Held). length held.vms) (take l.host-index l.hosts);
  vcpus : l.all.vcpus ≡ sum_by (λ (held : Held). vcpu_count_of held.vms) (take l.host-index l.hosts);
  load : l.all.load ≡ sum_by (λ (held : Held). load_of_vms held.vms) (take l.host-index l.hosts);
  split : l.all.split ≡ l.split;
  some : l.host-index ≤ l.all.cores;
  few_cores : l.all.cores ≤ l.host-index * MAX_CORES;
  few_vms : l.all.vms ≤ l.all.vcpus;
  few_vcpus : l.all.vcpus ≤ l.host-index * MAX_VCPUS;
  much : l.all.load ≤ l.all.cores * ROUND;
}
