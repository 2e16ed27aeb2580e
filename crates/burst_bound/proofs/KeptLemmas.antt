-- The stints that a crew keeps are those of the state of its run.
use Rattle.std.proofs.Common.{◌≡◌, ℕ, ◌<◌, List, Some, ◌∙◌, sym, subst, arith}
use Rattle.tab_core.specs.declared.stint.Stint.{Stint}
use Rattle.tab_core.proofs.Lists.{element_at}
use Rattle.table_form.specs.Running.Courses.{CourseView}
use Rattle.table_form.specs.Running.State.{State, CoreState, IsCore}
use Rattle.dispatch_core.specs.States.{StateView}
use Rattle.core_workers.specs.Views.{CrewView, actor_of}
use Rattle.burst_bound.specs.Inside.Seeing.{AreInOrder}
use Rattle.burst_bound.specs.KeptRuns.{IsKeptRun}
use Rattle.burst_bound.proofs.SeenLemmas.{core_in_order}

-- a core of the run's state, with these stints
pub record HasCore (s : State) (c : ℕ) (stints : List Stint) : Type 0 where
  pub core : CoreState
  pub at : IsCore s c core
  pub stints_are : stints ≡ core.stints

-- that of an actor has the actor's stints
pub core_of : (course : CourseView) (rounds : ℕ) (crew : CrewView) (s : State) (c : ℕ) (a : StateView)
    (stints : List Stint) → IsKeptRun course rounds crew s → c < course.cores → actor_of crew c ≡ Some a
    → stints ≡ a.stints → HasCore s c stints
core_of course rounds crew s c a stints kept lt actor same =
    let there = element_at s.cores c (omega (arith, kept.invariant.size)) in
    record { core = there.0; at = there.1; stints_are = same ∙ kept.stints c a there.0 actor there.1 }

-- they are in order
pub kept_in_order : (course : CourseView) (rounds : ℕ) (crew : CrewView) (s : State) (c : ℕ) (stints : List Stint)
    → IsKeptRun course rounds crew s → HasCore s c stints → AreInOrder stints
kept_in_order course rounds crew s c stints kept has =
    subst AreInOrder (sym has.stints_are) (core_in_order course rounds s c has.core kept.invariant has.at)
