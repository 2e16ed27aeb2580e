-- What a crew's actors tell of their run.
use Rattle.std.specs.Prelude.{◌≡◌, ℕ, zero, suc, ◌*◌, ◌≤◌, List, [], ◌∷◌, ◌++◌, length, Option, None, Some, slice_get}
use Rattle.tab_core.specs.declared.TheConstants.{MAX_ROUNDS, ROUND}
use Rattle.run_counts.specs.Accounts.{IsWithin}
use Rattle.dispatch_core.specs.States.{StateView}
use Rattle.run_counts.specs.declared.account.CoreAccount.{CoreAccount}
use Rattle.core_workers.specs.Views.{CrewView, actor_of}

abbrev pub used_in : Option StateView → List ℕ
used_in None = []
used_in (Some a) = a.used

-- the counts that core 0 used
abbrev pub first_used : CrewView → List ℕ
first_used crew = used_in (actor_of crew 0)

-- each actor used these counts, of which there is one for each round, each at most that of all events; and its
-- account is one of a run
pub record AreRunAccounts (crew : CrewView) (rounds : ℕ) : Type 0 where
  pub same : (c : ℕ) (a : StateView) → actor_of crew c ≡ Some a → a.used ≡ first_used crew
  pub size : length (first_used crew) ≡ rounds
  pub counts : (r count : ℕ) → slice_get (first_used crew) r ≡ Some count → count ≤ length crew.course.ticks
  pub within : (c : ℕ) (a : StateView) → actor_of crew c ≡ Some a → IsWithin a.account (MAX_ROUNDS * ROUND)

abbrev pub account_in : Option StateView → List CoreAccount
account_in None = []
account_in (Some a) = a.account ∷ []

-- the accounts of the first n cores
abbrev pub accounts_below : CrewView → ℕ → List CoreAccount
accounts_below crew zero = []
accounts_below crew (suc n) = accounts_below crew n ++ account_in (actor_of crew n)
