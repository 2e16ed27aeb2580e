use Rattle.std.proofs.Common.{◌≡◌, length}
use Rattle.run_course.specs.Inside.Keeping.{KeepAll}
use Rattle.run_course.proofs.keeping.keep_of.Given as goal

-- the cores so far keep what they may need
abbrev pub invariant-loop-core : goal.invariant-loop-core
invariant-loop-core l = record {
  keeps : KeepAll l.course l.rounds l.keep l.core;
  size : length l.keep ≡ 32;
}
