-- What is reported of a burst of a run.
-- Source: the rules of this project.
use Rattle.std.specs.Prelude.{◌≡◌, ℕ, ◌≤◌, Option, None, Some, MatchOption}
use Rattle.table_form.specs.Running.Courses.{CourseView}
use Rattle.table_form.specs.Running.State.{State}
use Rattle.burst_bound.specs.Bursts.{IsBurstBound, IsDoneAt, IsSeenAt}
use Rattle.burst_bound.specs.declared.answer.BurstAnswer.{BurstAnswer}

-- the tick is one of which this holds, and there is none only where it holds of no tick
abbrev pub IsOneIfAny : (ℕ → Type 0) → Option ℕ → Type 0
IsOneIfAny Is tick = MatchOption tick ((x : ℕ) → ¬ (Is x)) Is

-- the tick is such a one, of ticks that depend on when the burst is seen; where it isn't, there is
-- none
abbrev pub IsOneSince : (ℕ → ℕ → Type 0) → Option ℕ → Option ℕ → Type 0
IsOneSince Is None tick = tick ≡ None
IsOneSince Is (Some seen) tick = IsOneIfAny (Is seen) tick

-- where there is a bound, the work is done, by then at the latest
abbrev pub IsDoneBy : Option ℕ → Option ℕ → Type 0
IsDoneBy bound done = (latest : ℕ) → bound ≡ Some latest → (end : ℕ) × (done ≡ Some end) × (end ≤ latest)

-- the answer of an event that brings so many ticks of work for the vCPU: when it is seen and done and its bound, in
-- a run that led to this state
pub record IsBurstAnswer (course : CourseView) (rounds : ℕ) (s : State) (event vcpu work : ℕ)
    (answer : BurstAnswer) : Type 0 where
  pub seen : IsOneIfAny (IsSeenAt rounds s event) answer.seen
  pub done : IsOneSince (IsDoneAt rounds s vcpu work) answer.seen answer.done
  pub bound : IsOneSince (IsBurstBound course rounds s.decided event vcpu work) answer.seen answer.bound
  pub in_time : IsDoneBy answer.bound answer.done
