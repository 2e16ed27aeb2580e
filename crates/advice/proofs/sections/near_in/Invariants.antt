use Rattle.std.proofs.Common.{◌≡◌, ◌≤◌, ◌+◌, length}
use Rattle.tab_words.specs.Lines.{lines_of}
use Rattle.advice.specs.Sections.{near_from}
use Rattle.advice.proofs.sections.near_in.Given as goal

-- the lines that are left have the same first one
abbrev pub invariant-loop-line : goal.invariant-loop-line
invariant-loop-line l = record {
  same : near_from 1 (lines_of l.input) ≡ near_from (l.number + 1) l.line-iterator;
  few : l.number + length l.line-iterator ≤ length l.input;
}
