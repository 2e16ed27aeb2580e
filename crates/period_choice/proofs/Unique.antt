-- A reservation has at most one chosen budget, and a host's vCPUs at most one list of tasks.
use Rattle.std.proofs.Common.{◌≡◌, ℕ, ap, ◌∙◌, sym, arith, inl, inr, get_or, List, Option, Some, None}
use Rattle.std.proofs.lemmas.List.{same_lists}
use Rattle.std.proofs.lemmas.Option.{slice_get-get_or, slice_get_cases}
use Rattle.tab_core.proofs.Alike.{same_budget}
use Rattle.tab_core.specs.declared.host.Host.{Host}
use Rattle.tab_core.specs.declared.periodic.Periodic.{Periodic}
use Rattle.tab_core.specs.declared.reservation.Reservation.{Reservation}
use Rattle.reservation.specs.Cost.{cost}
use Rattle.period_choice.specs.Choice.{IsChosen, demand_at}
use Rattle.period_choice.specs.Tasks.{AreTasksOf, IsTaskOf}

-- the budgets of two chosen periods: each is least, and of those the largest
pub chosen_unique : (r : Reservation) (tick : ℕ) (a b : Periodic) → IsChosen r tick a
    → IsChosen r tick b → a ≡ b
chosen_unique r tick a b of_a of_b =
    let under = of_a.least b.period of_b.admissible in
    let over = of_b.least a.period of_a.admissible in
    let same : demand_at r a.period ≡ demand_at r b.period = omega arith in
    let low = of_b.largest a.period of_a.admissible same in
    let high = of_a.largest b.period of_b.admissible (sym same) in
    let period : a.period ≡ b.period = omega arith in
    same_budget a b (of_a.cost_is ∙ ap (cost r.share_ppm) period ∙ sym of_b.cost_is) period

-- a vCPU has one task, with a reservation or without
pub task_unique : (reservation : Option Reservation) (tick : ℕ) (a b : Option Periodic)
    → IsTaskOf reservation tick a → IsTaskOf reservation tick b → a ≡ b
task_unique None tick a b of_a of_b = of_a ∙ sym of_b
task_unique (Some r) tick None b of_a of_b = absurd of_a
task_unique (Some r) tick (Some a) None of_a of_b = absurd of_b
task_unique (Some r) tick (Some a) (Some b) of_a of_b = ap Some (chosen_unique r tick a b of_a of_b)

-- a host has one list of tasks, entry by entry: its plan is one for this reason
pub tasks_unique : (host : Host) (a b : List (Option Periodic)) → AreTasksOf host a → AreTasksOf host b
    → a ≡ b
tasks_unique host a b of_a of_b = same_lists a b (of_a.as_many ∙ sym of_b.as_many) (λ k d lt.
    let many_a = of_a.as_many in
    let many_b = of_b.as_many in
    elim ((slice_get_cases host.vcpus k).1) [
      | inl (vcpu, in_vcpus, at, same) ↦ task_unique vcpu.reservation host.tick_ns (get_or a k d) (get_or b k d)
          (of_a.each k vcpu _ at (slice_get-get_or a k d lt))
          (of_b.each k vcpu _ at (slice_get-get_or b k d (omega arith)))
      | inr (past, none) ↦ absurd (omega arith)
    ])
