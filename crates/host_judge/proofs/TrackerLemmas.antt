-- The marks of a vCPU, and what is kept of it.
use Rattle.std.proofs.Common.{arith, ◌≡◌, ℕ, ◌<◌, ◌≤◌, List, [], ◌∷◌, ◌++◌, Some, None, ap, refl, sym, ◌∙◌}
use Rattle.std.specs.Option.{option_or}
use Rattle.host_trace.specs.declared.mark.Mark.{Mark}
use Rattle.host_judge.specs.Courses.{IsSteady, StateCourse}
use Rattle.host_judge.specs.Inside.Settled.{AgreeBefore, CountsOn, HasSettled, IsTracked}
use Rattle.host_judge.specs.Inside.Placed.{HasWindowsOf}
use Rattle.host_judge.specs.Traces.{state_at, told_at}
use Rattle.host_judge.specs.declared.tracker.Tracker.{Tracker}
use Rattle.host_judge.proofs.MarkLemmas.{state_at-before, state_at-later, told_at-before, told_at-later}

-- after the vCPU's next mark
pub tracked_more : (marks : List Mark) (mark : Mark) (old settled new : Tracker) → old.since_ns ≤ mark.time_ns
    → IsTracked marks old → CountsOn old mark.time_ns settled → new.times ≡ settled.times
    → new.waits ≡ settled.waits → new.windows ≡ settled.windows → new.since_ns ≡ mark.time_ns → new.state ≡ Some mark.state
    → new.cpu ≡ option_or mark.cpu old.cpu → IsTracked (marks ++ mark ∷ []) new
tracked_more marks mark old settled new later is on times waits windows since state cpu = record {
  state = λ t high. state_at-later marks mark t (omega arith) ∙ sym state;
  cpu = λ t high. told_at-later marks mark t (omega arith)
      ∙ ap (option_or mark.cpu) (is.cpu t (omega arith)) ∙ sym cpu;
  settled = λ course told one two.
      let before : AgreeBefore old.since_ns course (state_at marks) = record {
        agree = λ t low. one.agree t (omega arith) ∙ state_at-before marks mark t (omega arith);
      } in
      let before_told : AgreeBefore old.since_ns told (told_at marks) = record {
        agree = λ t low. two.agree t (omega arith) ∙ told_at-before marks mark t (omega arith);
      } in
      let held : IsSteady course old.state old.since_ns mark.time_ns = record {
        held = λ t low high. one.agree t (omega arith) ∙ state_at-before marks mark t high ∙ is.state t low;
      } in
      let last : (old.since_ns < mark.time_ns → told old.since_ns ≡ old.cpu) = λ less.
      two.agree old.since_ns (omega arith) ∙ told_at-before marks mark old.since_ns less
      ∙ is.cpu old.since_ns (omega arith) in
      let all : HasSettled course told mark.time_ns settled.times settled.waits settled.windows =
      on.counts course told (is.settled course told before before_told) held last in
      rw (since, times, waits, windows) all;
}

-- at a later time, which ends the trace
pub settled_at : (marks : List Mark) (old new : Tracker) (to : ℕ) → IsTracked marks old → CountsOn old to new
    → HasSettled (state_at marks) (told_at marks) to new.times new.waits new.windows
settled_at marks old new to is on =
    on.counts (state_at marks) (told_at marks)
    (is.settled (state_at marks) (told_at marks) (record { agree = λ t low. refl }) (record { agree = λ t low. refl }))
    (record { held = λ t low high. is.state t low })
    (λ less. is.cpu old.since_ns (omega arith))

-- before the first mark
pub tracked_begun : (tracker : Tracker) → tracker.state ≡ None → tracker.since_ns ≡ 0 → tracker.cpu ≡ None
    → tracker.times.run_ns ≡ 0 → tracker.times.wait_ns ≡ 0 → tracker.times.block_ns ≡ 0
    → tracker.waits.current ≡ None → tracker.waits.longest ≡ None → tracker.waits.late ≡ 0
    → ((course : StateCourse) → HasWindowsOf course 0 tracker.windows) → IsTracked [] tracker
tracked_begun tracker state since cpu run wait block current longest late windows = record {
  state = λ t low. sym state;
  cpu = λ t low. sym cpu;
  settled = λ course told one two. rw since (record {
    in_states = record {
      run = run;
      wait = wait;
      block = block;
    };
    in_waits = record {
      current = rw current refl;
      longest = rw longest (λ t low. (let none : t ≡ 0 = omega arith in rw none refl));
      late = late;
    };
    in_windows = windows course;
  });
}
