-- Budgets on one core, in parts of it and over a time that is some number of each period.
use Rattle.std.proofs.Common.{◌≡◌, ℕ, suc, ◌+◌, ◌-◌, ◌*◌, ◌/◌, ◌<◌, ◌≤◌, ◌==◌, Bool, true, false, List, [], ◌∷◌, Some, refl, arith}
use Rattle.std.specs.Prelude.{slice_get}
use Rattle.std.specs.List.{sum_by}
use Rattle.std.proofs.Math.Nat.{lt-div-mul-add, mul-le-mul_right}
use Rattle.std.proofs.lemmas.List.Sums.{sum_by-cons}
use Rattle.view_doc.specs.declared.view.Task.{Task}
use Rattle.view_schedulers.specs.declared.TheConstants.{PARTS}
use Rattle.view_schedulers.specs.declared.scheduler.Scheduler.{Scheduler}
use Rattle.view_schedulers.specs.Budgets.{budget_on, has_budget, part_of, part_on, parts_given, parts_of, period_on}
use Rattle.view_schedulers.specs.Supply.{IsCommonTime, given_on}

-- a budget in each period is no more than its parts, over any number of periods
over_time : (period budget count : ℕ) → 1 ≤ period
    → PARTS * (budget * count) ≤ part_of period budget * (count * period)
over_time period budget count some =
    let a : ℕ = budget * PARTS + (period - 1) in
    let q : ℕ = a / period in
    let above : a < q * period + period = lt-div-mul-add {a = a} {b = period} (omega arith) in
    let enough : budget * PARTS ≤ q * period = omega arith in
    let times : budget * PARTS * count ≤ q * period * count = mul-le-mul_right count enough in
    let left : PARTS * (budget * count) ≡ budget * PARTS * count = grind arith in
    let right : q * (count * period) ≡ q * period * count = grind arith in
    rw (left, right) times

-- what a task is given in each period is no more than its parts, over any number of periods
task_room : (s : Scheduler) (tick core time : ℕ) (t : Task) → has_budget s tick t ≡ true → 1 ≤ period_on s tick t
    → (t.home ≡ core → time / period_on s tick t * period_on s tick t ≡ time)
    → PARTS * given_on s tick core time t ≤ part_on s tick core t * time
task_room s tick core time t taken some whole = at (t.home == core) refl
  where
    at : (b : Bool) → (t.home == core) ≡ b → PARTS * given_on s tick core time t ≤ part_on s tick core t * time
    at true h =
        let is : t.home ≡ core = grind arith in
        let fits = whole is in
        let one = over_time (period_on s tick t) (budget_on s tick t) (time / period_on s tick t) some in
        rw (h, taken) (rw fits at one)
    at false h = rw h (omega arith)

-- each task of the list is taken
abbrev pub AreTaken : Scheduler → ℕ → List Task → Type 0
AreTaken s tick tasks = (v : ℕ) (t : Task) → slice_get tasks v ≡ Some t
    → (has_budget s tick t ≡ true) × (1 ≤ period_on s tick t)

-- what all tasks are given is no more than the core's time
room_of : (s : Scheduler) (tick core time : ℕ) (tasks : List Task) → AreTaken s tick tasks
    → IsCommonTime s tick core tasks time
    → PARTS * sum_by (given_on s tick core time) tasks ≤ parts_given s tick core tasks * time
room_of s tick core time [] taken common = omega arith
room_of s tick core time (t ∷ ts) taken common =
    let first = task_room s tick core time t (taken 0 t refl).0 (taken 0 t refl).1 (common 0 t refl) in
    let rest = room_of s tick core time ts (λ v. taken (suc v)) (λ v. common (suc v)) in
    let given : sum_by (given_on s tick core time) (t ∷ ts)
    ≡ given_on s tick core time t + sum_by (given_on s tick core time) ts = sum_by-cons _ t ts in
    let load : parts_given s tick core (t ∷ ts) ≡ part_on s tick core t + parts_given s tick core ts = sum_by-cons _ t ts in
    let split : (part_on s tick core t + parts_given s tick core ts) * time
    ≡ part_on s tick core t * time + parts_given s tick core ts * time = grind arith in
    rw (given, load, split) (omega arith)

-- where no core is given more than its parts, there is room
pub room : (s : Scheduler) (tick core time : ℕ) (tasks : List Task) → AreTaken s tick tasks
    → parts_given s tick core tasks ≤ parts_of s → IsCommonTime s tick core tasks time
    → PARTS * sum_by (given_on s tick core time) tasks ≤ parts_of s * time
room s tick core time tasks taken most common =
    let all = room_of s tick core time tasks taken common in
    let times = mul-le-mul_right {m = parts_given s tick core tasks} {n = parts_of s} time most in
    omega arith
