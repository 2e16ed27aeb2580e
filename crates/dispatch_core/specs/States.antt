-- What a core's actor keeps of its run, and when it agrees with the core's part of a view.
-- Source: the rules of this project.
use Rattle.std.specs.Prelude.{◌≡◌, ℕ, ◌*◌, ◌/◌, ◌<◌, ◌≤◌, List, Option, Some, length, slice_get, take}
use Rattle.tab_core.specs.declared.TheConstants.{ROUND}
use Rattle.tab_core.specs.declared.stint.Stint.{Stint}
use Rattle.table_form.specs.Running.Choice.{last_shared}
use Rattle.table_form.specs.Running.Courses.{CourseView, outline_of}
use Rattle.table_form.specs.Running.Outlines.{OutlineView}
use Rattle.round_words.specs.declared.view.Part.{Part}
use Rattle.round_words.specs.declared.view.View.{View}
use Rattle.round_words.specs.Hearing.{KnowsClocks}
use Rattle.round_words.specs.Shown.{HoldsCore}
use Rattle.round_words.specs.Views.{part}
use Rattle.run_counts.specs.declared.account.CoreAccount.{CoreAccount}
use Rattle.run_counts.specs.Accounts.{IsAccountOf, IsWithin}
use Rattle.dispatch_core.specs.Parts.{AreDispatched, HasSeen, IsOfOutline, IsTimely, used_counts}

-- what is kept of core `core` in a run of so many rounds; the clock is in ticks
pub record StateView : Type 0 where
  pub core : ℕ
  pub rounds : ℕ
  -- how many stints are kept, the first ones
  pub keep : ℕ
  pub clock : ℕ
  -- the last shared pick
  pub last : Option ℕ
  pub account : CoreAccount
  -- the used count of each round that the core entered
  pub used : List ℕ
  pub stints : List Stint
  -- for each core the clock that was heard last
  pub known : List ℕ

-- an actor: the course, and what it keeps
pub record ActorView : Type 0 where
  pub course : CourseView
  pub state : StateView

-- a core's actor by its course and its state
abbrev pub actor_view : CourseView → StateView → ActorView
actor_view course state = record { course = course; state = state }

-- The state agrees with its core's part of the view, which the view holds, in all that needs no plan.
pub record AgreesWithoutPlan (o : OutlineView) (s : StateView) (v : View) : Type 0 where
  pub of_outline : IsOfOutline o v
  pub core : HoldsCore v s.core
  pub timely : IsTimely o s.rounds (part v s.core)
  pub clock : s.clock ≡ (part v s.core).clock
  pub used : s.used ≡ used_counts (part v s.core).entries
  pub stints : s.stints ≡ take s.keep (part v s.core).stints
  pub known : KnowsClocks s.known (part v s.core)
  pub within : IsWithin s.account s.clock

-- The state and its core's part follow the plans of the course: the part's stints are those that the rules
-- choose, and the last shared pick and the account are what these stints give.
pub record FollowsPlans (course : CourseView) (s : StateView) (p : Part) : Type 0 where
  pub dispatched : AreDispatched course s.core p.stints
  pub last : s.last ≡ last_shared course s.core p.stints
  pub account : IsAccountOf course s.core p.stints s.account

-- the state, of a run of the course, agrees with its core's part of the view
pub record AgreesWith (course : CourseView) (s : StateView) (v : View) : Type 0 where
  pub stands : AgreesWithoutPlan (outline_of course) s v
  pub plans : FollowsPlans course s (part v s.core)

-- the state of the same core, some steps on
pub record IsSameCore (s t : StateView) : Type 0 where
  pub core : t.core ≡ s.core
  pub rounds : t.rounds ≡ s.rounds
  pub keep : t.keep ≡ s.keep

-- the core has begun a step: it isn't at the run's end, has just seen the one count, and its clock's round has the other
pub record HasBegun (o : OutlineView) (s : StateView) (v : View) (seen used : ℕ) : Type 0 where
  pub unfinished : s.clock < s.rounds * ROUND
  pub sight : HasSeen o seen (part v s.core)
  pub entered : slice_get s.used (s.clock / ROUND) ≡ Some used
  pub within : used ≤ length o.ticks
