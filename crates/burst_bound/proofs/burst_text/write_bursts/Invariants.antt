use Rattle.std.proofs.Common.{Ok}
use Rattle.tab_io.specs.Sinks.{Writes}
use Rattle.tab_words.specs.Texts.{texts_below}
use Rattle.vcpu_names.specs.Names.{names_of}
use Rattle.burst_bound.specs.BurstText.{burst_line_at}
use Rattle.burst_bound.specs.ScriptBursts.{bursts_of}
use Rattle.burst_bound.proofs.ScriptBurstLemmas.{BurstsSoFar}
use Rattle.burst_bound.proofs.burst_text.write_bursts.Given as goal

-- the lines of the bursts so far came
abbrev pub invariant-loop-i : goal.invariant-loop-i
invariant-loop-i g l = record {
  so_far : BurstsSoFar l.events l.i l.k;
  wrote : Writes {U = Unit {0}} (g.K.Sink.state l.fn.sink) (g.K.Sink.state l.sink)
      (texts_below (burst_line_at (names_of l.vcpus) (bursts_of l.events) l.answers) l.k) (Ok (tt {0}));
}
