use Rattle.std.proofs.Common.{◌≡◌, ◌≤◌, ◌+◌, length, true}
use Rattle.advice.specs.KeyLines.{key_line_after, key_line_from}
use Rattle.advice.proofs.key_lines.key_line_after.Given as goal

-- the lines that are left have the same first one
abbrev pub invariant-loop-line : goal.invariant-loop-line
invariant-loop-line l = record {
  same : key_line_after l.count l.key l.text ≡ key_line_from true l.key (l.number + 1) l.line-iterator;
  few : l.number + length l.line-iterator ≤ length l.text;
}
