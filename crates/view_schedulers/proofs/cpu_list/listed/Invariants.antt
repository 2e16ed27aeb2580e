use Rattle.std.proofs.Common.{ℕ, ◌++◌, List}
use Rattle.view_schedulers.specs.CpuLists.{IsCpuList}
use Rattle.view_schedulers.proofs.cpu_list.listed.Given as goal

-- what is left is a list: with its CPUs after those so far the text is one
abbrev pub invariant-loop : goal.invariant-loop
invariant-loop l = (others : List ℕ) → IsCpuList l.rest others → IsCpuList l.text (l.cpus.items ++ others)
