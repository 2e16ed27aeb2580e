use Rattle.std.proofs.Common.{◌≡◌, ◌+◌, length, map}
use Rattle.std.specs.List.{range_with_len}
use Rattle.tool_hosts.proofs.lines.cpus_from.Given as goal

-- the CPUs of the cores so far
abbrev pub invariant-loop-core : goal.invariant-loop-core
invariant-loop-core l = record {
  cpus : l.cpus.items ≡ map (λ core. l.first + core) (range_with_len 0 l.core);
  size : length l.cpus.items ≡ l.core;
}
