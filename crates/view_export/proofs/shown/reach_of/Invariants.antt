use Rattle.std.proofs.Common.{◌≡◌, ◌≤◌, drop, max}
use Rattle.tab_core.specs.declared.TheConstants.{MAX_CORES}
use Rattle.view_doc.specs.Views.{reach_of}
use Rattle.view_export.proofs.shown.reach_of.Given as goal

abbrev pub invariant-loop-stretch : goal.invariant-loop-stretch
invariant-loop-stretch l = record {
  value : reach_of l.stretches ≡ max l.reach (reach_of (drop l.stretch-index l.stretches));
  few : l.reach ≤ MAX_CORES;
}
