use Rattle.std.proofs.Common.{◌≡◌, ◌++◌, drop, flat_map}
use Rattle.tab_io.specs.Sinks.{IsLeft}
use Rattle.vcpu_names.specs.Names.{names_of}
use Rattle.stint_text.specs.StintLine.{stint_line}
use Rattle.trace_report.proofs.trace.put_stints.Given as goal

-- the gathered lines are left, and those from this one on
abbrev pub invariant-loop-stint : goal.invariant-loop-stint
invariant-loop-stint g l = record {
  names : l.lines.names ≡ names_of l.vcpus;
  left : IsLeft (g.K.Sink.state l.fn.sink) (g.K.Sink.state l.sink)
      (flat_map (stint_line (names_of l.vcpus) l.course l.core) l.stints)
      (l.lines.gathered ++ flat_map (stint_line (names_of l.vcpus) l.course l.core) (drop l.stint-index l.stints));
}
