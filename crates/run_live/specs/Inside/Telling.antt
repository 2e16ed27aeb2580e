-- What the actors of a live run tell of it.
use Rattle.std.specs.Prelude.{◌≡◌, ℕ, ◌*◌, ◌≤◌, List, [], Option, None, Some, length, map, slice_get}
use Rattle.tab_core.specs.declared.TheConstants.{MAX_ROUNDS, ROUND}
use Rattle.table_form.specs.Running.Courses.{CourseView}
use Rattle.run_counts.specs.Accounts.{IsWithin}
use Rattle.run_counts.specs.declared.account.CoreAccount.{CoreAccount}
use Rattle.live_plan.specs.Actors.{LiveActorView}

abbrev pub live_used_in : Option LiveActorView → List ℕ
live_used_in None = []
live_used_in (Some a) = a.state.used

-- the counts that core 0 used
abbrev pub live_first_used : List LiveActorView → List ℕ
live_first_used actors = live_used_in (slice_get actors 0)

-- the account of each core, by number
abbrev pub accounts_of : List LiveActorView → List CoreAccount
accounts_of actors = map (λ (a : LiveActorView). a.state.account) actors

-- the actors are those of the course's cores, core 0 used a count for each round, each at most that of all
-- events, and each account is one of a run
pub record AreLiveRunAccounts (course : CourseView) (actors : List LiveActorView) (rounds : ℕ) : Type 0 where
  pub cores : length actors ≡ course.cores
  pub size : length (live_first_used actors) ≡ rounds
  pub counts : (r count : ℕ) → slice_get (live_first_used actors) r ≡ Some count → count ≤ length course.ticks
  pub within : (c : ℕ) (a : LiveActorView) → slice_get actors c ≡ Some a → IsWithin a.state.account (MAX_ROUNDS * ROUND)
