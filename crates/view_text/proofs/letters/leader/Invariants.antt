use Rattle.std.proofs.Common.{◌≡◌, ◌<◌}
use Rattle.std.specs.Prelude.{slice_index}
use Rattle.tab_core.specs.declared.TheConstants.{MAX_VCPUS}
use Rattle.view_text.specs.TextCharts.{leader}
use Rattle.view_text.proofs.letters.leader.Given as goal

-- the one of those so far
abbrev pub invariant-loop-v : goal.invariant-loop-v
invariant-loop-v l = record {
  value : l.best ≡ leader (λ v. slice_index l.ticks v) l.v;
  small : l.best < MAX_VCPUS;
}
