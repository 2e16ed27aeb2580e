use Rattle.std.proofs.Common.{◌≡◌, ◌≤◌, ◌+◌, length}
use Rattle.tab_words.specs.Lines.{lines_of}
use Rattle.advice.specs.KeyLines.{vcpu_start_from}
use Rattle.advice.proofs.key_lines.vcpu_start_in.Given as goal

-- the lines that are left have the same one
abbrev pub invariant-loop-line : goal.invariant-loop-line
invariant-loop-line l = record {
  same : vcpu_start_from l.number 1 (lines_of l.text) ≡ vcpu_start_from l.before (l.at + 1) l.line-iterator;
  few : l.at + length l.line-iterator ≤ length l.text;
}
