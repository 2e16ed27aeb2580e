use Rattle.std.proofs.Common.{◌≡◌, ◌≤◌, [], map, take}
use Rattle.std.specs.List.{All}
use Rattle.host_judge.specs.Inside.Judged.{terms_of}
use Rattle.host_judge.specs.Inside.Reported.{sold_terms}
use Rattle.host_judge.specs.Inside.Settled.{IsTracked}
use Rattle.host_judge.proofs.judging.trackers_of.Given as goal

abbrev pub invariant-loop-vcpu : goal.invariant-loop-vcpu
invariant-loop-vcpu l = record {
  terms : map terms_of l.trackers.items ≡ map (sold_terms l.window_ns) (take l.vcpu-index l.vcpus);
  begun : All (λ tracker. tracker.since_ns ≤ 0) l.trackers.items;
  tracked : All (λ tracker. IsTracked [] tracker) l.trackers.items;
}
