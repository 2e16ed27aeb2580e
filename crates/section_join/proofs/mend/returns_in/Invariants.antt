use Rattle.std.proofs.Common.{◌≡◌, ◌+◌, ◌≤◌, count_by, length}
use Rattle.section_join.specs.Mended.{ends_in_return, returns_in}
use Rattle.section_join.proofs.mend.returns_in.Given as goal

abbrev pub invariant-loop-line : goal.invariant-loop-line
invariant-loop-line l = record {
  counted : returns_in l.bytes ≡ l.count + count_by ends_in_return l.line-iterator;
  few : l.count + length l.line-iterator ≤ length l.bytes;
}
