use Rattle.std.proofs.Common.{refl, ap, ◌∙◌}
use Rattle.std.specs.Option.{option_or}
use Rattle.host_judge.proofs.TrackerLemmas.{tracked_more}
use Rattle.host_judge.proofs.tracker.Tracker.take.Goals as goal

pub returns-clause-tracked : goal.returns-clause-tracked
returns-clause-tracked c = λ marks is.
    tracked_more marks c.args.mark.now c.args.self.now c.settle.new.self _ c.requires is c.in_ok-settle.ensures.settled
    refl refl refl c.in_ok-settle.ensures.since refl
    (c.or-self.ensures ∙ ap (option_or c.args.mark.now.cpu) c.settle.ensures.cpu)
