use Rattle.std.proofs.Common.{◌≡◌}
use Rattle.tab_words.specs.Lines.{lines_of}
use Rattle.view_trace.specs.Traces.{is_host_trace}
use Rattle.view_trace.proofs.read.is_host_trace.Given as goal

-- the lines so far say nothing
abbrev pub invariant-loop-line : goal.invariant-loop-line
invariant-loop-line l = is_host_trace (lines_of l.bytes) ≡ is_host_trace l.line-iterator
