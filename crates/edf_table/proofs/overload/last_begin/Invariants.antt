use Rattle.std.proofs.Common.{◌≡◌, ◌⊎◌, ◌<◌}
use Rattle.edf_table.specs.Inside.Progress.{NoWindowBegins, SomeBegin}
use Rattle.edf_table.proofs.overload.last_begin.Given as goal

abbrev pub invariant-loop-i : goal.invariant-loop-i
invariant-loop-i l = record {
  earlier : l.begin < l.tick;
  one : (l.begin ≡ 0) ⊎ SomeBegin l.pieces l.begin;
  none : NoWindowBegins l.pieces l.i l.begin l.tick;
}
