-- What is known of a host between two events of a script.
use Rattle.std.specs.Prelude.{◌≡◌, ℕ, Bool, List, []}
use Rattle.tab_core.specs.Vcpus.{runnable_at_first}
use Rattle.tab_core.specs.declared.host.Host.{Host}
use Rattle.table_form.specs.Tables.Plans.{PlanView}
use Rattle.plan_make.specs.Planned.{IsPlanned}
use Rattle.plan_book.specs.declared.outcome.Outcome.{Outcome}

-- the host, its plan with its number, the runnable vCPUs, and the outcome of each change so far
pub record BookState : Type 0 where
  pub host : Host
  pub plan : PlanView
  pub number : ℕ
  pub runnable : List Bool
  pub outcomes : List Outcome

-- before the first event there are the host and its plan, which is number 0
pub record IsKnownAtFirst (host : Host) (known : BookState) : Type 0 where
  pub host_is : known.host ≡ host
  pub planned : IsPlanned host known.plan
  pub number_is : known.number ≡ 0
  pub runnable_is : known.runnable ≡ runnable_at_first host.vcpus
  pub no_outcome : known.outcomes ≡ []
