use Rattle.std.proofs.Common.{◌≡◌, ◌++◌, drop, flat_map}
use Rattle.tab_io.specs.Sinks.{IsLeft}
use Rattle.vcpu_names.specs.Names.{names_of}
use Rattle.replay_text.specs.ReplayText.{made_line}
use Rattle.replay_text.proofs.write.put_all_made.Given as goal

-- the gathered lines are left, and those from this one on
abbrev pub invariant-loop-place : goal.invariant-loop-place
invariant-loop-place g l = record {
  names : l.lines.names ≡ names_of l.vcpus;
  left : IsLeft (g.K.Sink.state l.fn.sink) (g.K.Sink.state l.sink)
      (flat_map (made_line (names_of l.vcpus) l.course) l.trace.made)
      (l.lines.gathered ++ flat_map (made_line (names_of l.vcpus) l.course) (drop l.place l.trace.made));
}
