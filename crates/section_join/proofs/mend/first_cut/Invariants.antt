use Rattle.std.proofs.Common.{◌≡◌, ◌+◌, ◌≤◌, length}
use Rattle.tab_words.specs.Lines.{lines_of}
use Rattle.section_join.specs.Mended.{first_cut}
use Rattle.section_join.proofs.TurnLemmas.{behind}
use Rattle.section_join.proofs.mend.first_cut.Given as goal

-- what is left decides, and the lines are few enough to be counted
abbrev pub invariant-loop-line : goal.invariant-loop-line
invariant-loop-line l = record {
  found : first_cut (lines_of l.bytes) ≡ behind l.number (first_cut l.line-iterator);
  few : l.number + length l.line-iterator ≤ length l.bytes;
}
