-- Wrapped rows and homes make a plan.
use Rattle.std.proofs.Common.{◌≡◌, ℕ, Bool, List, Option, refl, sym, subst, arith}
use Rattle.tab_core.specs.declared.periodic.Periodic.{Periodic}
use Rattle.table_form.specs.Tables.Homes.{HaveHomes}
use Rattle.table_form.specs.Tables.Plans.{IsPlan, PlanView}
use Rattle.table_form.specs.Tables.Rows.{Row}
use Rattle.flow_net.specs.Allotments.{AllotmentView, IsAllotment}
use Rattle.wrap_table.specs.Inside.Homing.{AreHomesOf}
use Rattle.wrap_table.specs.Wrapping.{AreWrapped, IsWrapped}
use Rattle.wrap_table.proofs.HomingLemmas.{home_is_most, homes_are_housed}
use Rattle.wrap_table.proofs.Serving.{wrapped_serves, wrapped_serves_exactly}
use Rattle.wrap_table.proofs.WholeLemmas.{some_core}
use Rattle.wrap_table.proofs.Wraps.{wrapped_apart, wrapped_owned}

-- the homes of an allotment that was laid out
pub housed : (tasks : List (Option Periodic)) (cores : ℕ) (a : AllotmentView) (rows : List Row)
    (homes : List (Option ℕ))
    → IsAllotment tasks cores a → AreWrapped a cores rows → AreHomesOf tasks rows homes
    → HaveHomes tasks homes rows
housed tasks cores a rows homes is wrapped are =
    homes_are_housed tasks rows homes are
    (λ v task at. omega (arith, some_core tasks cores a is v task at, wrapped.count))

-- what a plan of them keeps
pub keeps : (tasks : List (Option Periodic)) (cores : ℕ) (a : AllotmentView) (rows : List Row)
    (homes : List (Option ℕ)) (capped : List Bool)
    → IsAllotment tasks cores a → AreWrapped a cores rows → AreHomesOf tasks rows homes
    → IsPlan (record { tasks = tasks; homes = homes; rows = rows; capped = capped })
keeps tasks cores a rows homes capped is wrapped are = record {
  serves = wrapped_serves tasks cores a rows is wrapped;
  apart = wrapped_apart tasks cores a rows is wrapped;
  housed = housed tasks cores a rows homes is wrapped are;
  owned = wrapped_owned tasks cores a rows is wrapped;
  exact = wrapped_serves_exactly tasks capped cores a rows is wrapped;
}

-- what the rows make is the plan of the allotment
pub is_wrapped : (tasks : List (Option Periodic)) (cores : ℕ) (a : AllotmentView) (rows : List Row)
    (homes : List (Option ℕ)) (capped : List Bool)
    → IsAllotment tasks cores a → AreWrapped a cores rows → AreHomesOf tasks rows homes
    → IsWrapped tasks a cores (record { tasks = tasks; homes = homes; rows = rows; capped = capped })
is_wrapped tasks cores a rows homes capped is wrapped are = record {
  tasks_are = refl;
  rows_are = wrapped;
  housed = housed tasks cores a rows homes is wrapped are;
  homes_are = λ v core at.
      home_is_most tasks rows homes are v core at
      (λ task at_task. omega (arith, some_core tasks cores a is v task at_task, wrapped.count));
}

-- what was made of an allotment: a copy of the tasks, wrapped rows, and homes
pub record IsMade (tasks : List (Option Periodic)) (cores : ℕ) (a : AllotmentView) (plan : PlanView) : Type 0
  where
    pub tasks_are : plan.tasks ≡ tasks
    pub rows_are : AreWrapped a cores plan.rows
    pub homes_are : AreHomesOf tasks plan.rows plan.homes

-- it is a plan
pub made_keeps : (tasks : List (Option Periodic)) (cores : ℕ) (a : AllotmentView) (plan : PlanView)
    → IsAllotment tasks cores a → IsMade tasks cores a plan → IsPlan plan
made_keeps tasks cores a plan is made =
    subst (λ (ts : List (Option Periodic)). IsPlan (record {
      tasks = ts;
      homes = plan.homes;
      rows = plan.rows;
      capped = plan.capped;
    }))
    (sym made.tasks_are)
    (keeps tasks cores a plan.rows plan.homes plan.capped is made.rows_are made.homes_are)

-- what is made of an allotment is its plan
pub made_is_wrapped : (tasks : List (Option Periodic)) (cores : ℕ) (a : AllotmentView) (plan : PlanView)
    → IsAllotment tasks cores a → IsMade tasks cores a plan → IsWrapped tasks a cores plan
made_is_wrapped tasks cores a plan is made =
    subst (λ (ts : List (Option Periodic)). IsWrapped tasks a cores (record {
      tasks = ts;
      homes = plan.homes;
      rows = plan.rows;
      capped = plan.capped;
    }))
    (sym made.tasks_are)
    (is_wrapped tasks cores a plan.rows plan.homes plan.capped is made.rows_are made.homes_are)
