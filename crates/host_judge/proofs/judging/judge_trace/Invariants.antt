use Rattle.host_judge.proofs.JudgingLemmas.{HasCome}
use Rattle.host_judge.proofs.judging.judge_trace.Given as goal

abbrev pub invariant-loop : goal.invariant-loop
invariant-loop g l = HasCome (g.S.Source.state l.fn.source) (g.S.Source.state l.source) l.vcpus l.window_ns l.held.items l.reading l.counter
