use Rattle.std.proofs.Common.{◌≡◌, ℕ, ◌<◌, ◌≤◌, ◌++◌, List, Option, length, map}
use Rattle.std.specs.List.{All}
use Rattle.tab_core.specs.declared.TheConstants.{MAX_CORES}
use Rattle.tab_core.specs.declared.over.Over.{Over}
use Rattle.table_form.specs.Planning.Jobs.{Subtask}
use Rattle.cd_split.specs.Inside.Search.{left_of}
use Rattle.cd_split.specs.Splitting.{Splits, all_of, core_numbers, subtask_on_core}
use Rattle.cd_split.proofs.splitting.split.Given as goal

-- the pieces so far and what comes of what is left are what comes of the vCPU
abbrev pub invariant-loop-pieces : goal.invariant-loop-pieces
invariant-loop-pieces l = record {
  vcpu : l.left.vcpu ≡ l.vcpu;
  there : All (λ core. core < length l.cores) l.unused.items;
  few : length l.unused.items ≤ MAX_CORES;
  so_far : (subtasks : List (ℕ × Subtask)) (refused : Option (ℕ × List Over))
      → Splits l.cores (left_of l.left) l.unused.items subtasks refused
      → Splits l.cores (all_of l.vcpu l.fn.task) (core_numbers l.cores)
      (map subtask_on_core l.pieces.items ++ subtasks) refused;
}

abbrev pub decreases-loop-pieces : goal.decreases-loop-pieces
decreases-loop-pieces l = l.left.rest
