use Rattle.std.proofs.Common.{◌≡◌, map}
use Rattle.std.specs.List.{list_any}
use Rattle.tab_words.specs.Texts.{worded}
use Rattle.tab_words.specs.Words.{words_of}
use Rattle.view_report.specs.Lines.{begins_run}
use Rattle.view_report.proofs.read.has_report.Given as goal

-- the lines that are left decide
abbrev pub invariant-loop-line : goal.invariant-loop-line
invariant-loop-line l = list_any begins_run (worded l.bytes) ≡ list_any begins_run (map words_of l.line-iterator)
