use Rattle.std.proofs.Common.{◌≡◌, ◌+◌, ◌*◌, ◌++◌, map}
use Rattle.std.specs.List.{range_with_len}
use Rattle.view_schedulers.proofs.cpu_list.push_range.Given as goal

-- the CPUs so far are added
abbrev pub invariant-loop-k : goal.invariant-loop-k
invariant-loop-k l = l.cpus.items ≡ l.fn.cpus.items ++ map (λ k. l.range.first + k * l.range.step) (range_with_len 0 l.k)
