use Rattle.std.proofs.Common.{◌≡◌, ◌≤◌, ◌+◌, false, length}
use Rattle.tab_words.specs.Lines.{lines_of}
use Rattle.advice.specs.KeyLines.{key_line_from}
use Rattle.advice.proofs.key_lines.any_line_in.Given as goal

-- the lines that are left have the same first one
abbrev pub invariant-loop-line : goal.invariant-loop-line
invariant-loop-line l = record {
  same : key_line_from false l.key 1 (lines_of l.text) ≡ key_line_from false l.key (l.number + 1) l.line-iterator;
  few : l.number + length l.line-iterator ≤ length l.text;
}
