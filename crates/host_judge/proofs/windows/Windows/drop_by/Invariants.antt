use Rattle.std.proofs.Common.{◌≡◌, ℕ, length}
use Rattle.host_judge.specs.Courses.{StateCourse}
use Rattle.host_judge.specs.Inside.Placed.{HasPlaces}
use Rattle.host_judge.specs.Inside.Windowed.{HasTrail}
use Rattle.host_judge.proofs.windows.Windows.drop_by.Given as goal

abbrev pub invariant-loop-stretch : goal.invariant-loop-stretch
invariant-loop-stretch l = record {
  window : l.self.window_ns ≡ l.fn.self.window_ns;
  least : l.self.least ≡ l.fn.self.least;
  waits : l.self.waits_at ≡ l.fn.self.waits_at;
  trail : (cut : StateCourse) (to : ℕ) → HasTrail cut to l.time l.fn.self → HasTrail cut to l.time l.self;
  placed : (course : StateCourse) (to : ℕ) → HasPlaces course to l.fn.self → HasPlaces course to l.self;
}

abbrev pub decreases-loop-stretch : goal.decreases-loop-stretch
decreases-loop-stretch l = length l.self.runs.items
