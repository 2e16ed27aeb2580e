use Rattle.std.proofs.Common.{◌≡◌, ℕ, ◌<◌, length, take}
use Rattle.std.specs.Prelude.{slice_index}
use Rattle.tab_core.specs.declared.TheConstants.{MAX_VCPUS}
use Rattle.view_text.specs.TextCharts.{owned_at}
use Rattle.view_text.proofs.letters.owned_at.Given as goal

-- the ticks of the bars so far
abbrev pub invariant-loop-bar : goal.invariant-loop-bar
invariant-loop-bar l = record {
  count : length l.ticks ≡ MAX_VCPUS;
  owned : (v : ℕ) → v < MAX_VCPUS
      → slice_index l.ticks v ≡ owned_at l.frame l.columns (take l.bar-index l.bars) l.j v;
}
