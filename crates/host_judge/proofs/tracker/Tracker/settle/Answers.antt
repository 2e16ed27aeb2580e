use Rattle.std.proofs.Common.{◌≡◌, ◌+◌, ◌-◌, arith, sym, subst}
use Rattle.host_judge.specs.Courses.{IsSteady}
use Rattle.host_judge.specs.Inside.Placed.{HasWindowsOf}
use Rattle.host_judge.proofs.PlaceLemmas.{count_parts}
use Rattle.host_judge.proofs.tracker.Tracker.settle.Goals as goal

pub returns-clause-settled : goal.returns-clause-settled
returns-clause-settled c = record {
  counts = λ course told has held last.
      (let from = c.args.self.now.since_ns in
      let end : from + (c.args.to - from) ≡ c.args.to = omega (arith, c.requires) in
      let steady : IsSteady course c.args.self.now.state from (from + (c.args.to - from)) =
      subst (IsSteady course c.args.self.now.state from) (sym end) held in
      let parts = count_parts course from in
      record {
        in_states = c.times_behind-times.ensures.counted course has.in_states held;
        in_waits = c.waits_behind-waits.ensures.counted course told has.in_waits held (last (omega arith));
        in_windows = subst (λ t. HasWindowsOf course t c.go_on.new.self) end
            (c.in_ok-go_on.ensures.counted course has.in_windows
            (omega (arith, parts, has.in_states.run, has.in_states.wait)) has.in_states.run steady);
      });
}
