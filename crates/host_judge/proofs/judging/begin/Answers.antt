use Rattle.std.proofs.Common.{refl}
use Rattle.host_judge.proofs.JudgingLemmas.{has_begun}
use Rattle.host_judge.proofs.judging.begin.Goals as goal

pub returns : goal.returns
returns c =
    has_begun c.args.window_ns c.args.vcpus.now _ c.in_ok-names.ensures.names c.in_ok-trackers_of.ensures.terms refl refl
    c.no_lines.ensures.counted c.no_lines-2.ensures.counted c.in_ok-begin.ensures.begun c.in_ok-trackers_of.ensures.tracked
