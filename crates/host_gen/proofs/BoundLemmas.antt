-- A generated host lies within the bound of worst fit, and so is refused neither because a period is
-- missing nor because room is.
use Rattle.std.proofs.Common.{◌≡◌, ℕ, ◌+◌, ◌-◌, ◌*◌, ◌%◌, ◌<◌, ◌≤◌, ◌++◌, List, [], ◌∷◌, length, get_or, Option, Some, None, IsSomeAnd, inl, inr, subst, sym, ◌∙◌, arith}
use Rattle.std.specs.Prelude.{All}
use Rattle.std.proofs.Math.Nat.{mul-le-mul_left}
use Rattle.std.proofs.lemmas.List.Elements.{All-from_get_or, All-head, All-tail}
use Rattle.std.proofs.lemmas.List.Sums.{sum_by-cons}
use Rattle.std.proofs.lemmas.Option.{slice_get-get_or, slice_get_cases}
use Rattle.tab_core.specs.declared.TheConstants.{TICK_NS}
use Rattle.tab_core.specs.declared.host.Host.{Host}
use Rattle.tab_core.specs.declared.over.Over.{Over}
use Rattle.tab_core.specs.declared.periodic.Periodic.{Periodic}
use Rattle.tab_core.specs.declared.reservation.Reservation.{Reservation}
use Rattle.tab_core.specs.declared.vcpu.Vcpu.{Vcpu}
use Rattle.period_choice.specs.Tasks.{AreTasksOf, IsFirstWithoutPeriod, IsTaskOf, LacksPeriod}
use Rattle.worst_fit.specs.Bound.{IsWithinBound, largest_demand, total_demand}
use Rattle.worst_fit.specs.Load.{task_demand}
use Rattle.worst_fit.proofs.BoundLemmas.{none_left}
use Rattle.plan_make.specs.Planned.{IsFirstWithoutRoom}
use Rattle.host_gen.specs.Generated.{IsGenerated, IsGeneratedReservation, IsGeneratedVcpu, most_percent, percent_of, period_of}
use Rattle.host_gen.specs.GeneratorWords.{first_word, second_word}
use Rattle.host_gen.specs.Planning.{HasWholePeriod}
use Rattle.host_gen.proofs.PlanningLemmas.{whole_reservation}
use Rattle.host_gen.proofs.PercentLemmas.{most_at_least, most_shared}

-- ---- one vCPU

-- the law of one vCPU, by its reservation
pub has_whole_period : (percent second : ℕ) (reservation : Option Reservation)
    → IsSomeAnd reservation (IsGeneratedReservation percent (period_of second))
    → IsSomeAnd reservation (HasWholePeriod percent (period_of second))
has_whole_period percent second None is = is
has_whole_period percent second (Some r) is = whole_reservation percent second r is

-- a vCPU of such a reservation isn't without a period
never_lacks : (percent second : ℕ) (reservation : Option Reservation)
    → IsSomeAnd reservation (IsGeneratedReservation percent (period_of second))
    → LacksPeriod reservation TICK_NS → ⊥
never_lacks percent second None is lacks = is
never_lacks percent second (Some r) is lacks =
    lacks (period_of second, (whole_reservation percent second r is).admissible)

-- a generated vCPU takes 1026 ticks of a round for each percent
takes : (percent second : ℕ) (reservation : Option Reservation) (task : Option Periodic)
    → IsSomeAnd reservation (IsGeneratedReservation percent (period_of second)) → IsTaskOf reservation TICK_NS task
    → task_demand task ≡ 1026 * percent
takes percent second None task is of = absurd is
takes percent second (Some r) None is of = absurd of
takes percent second (Some r) (Some task) is of = (whole_reservation percent second r is).chosen task of

-- which is no more than what the most percent take
takes_at_most : (most number first second : ℕ) (vcpu : Vcpu) (task : Option Periodic) → 1 ≤ most
    → IsGeneratedVcpu most number first second vcpu → IsTaskOf vcpu.reservation TICK_NS task
    → task_demand task ≤ 1026 * most
takes_at_most most number first second vcpu task some is of =
    let same = takes (percent_of most first) second vcpu.reservation task is.reservation of in
    let less : first % most < most = omega arith in
    omega arith

-- ---- all vCPUs

-- a task takes no more of a round than this
abbrev TakesAtMost : ℕ → Option Periodic → Type 0
TakesAtMost most task = task_demand task ≤ most

-- where none takes more than this, all together take no more than as many times this
total_at_most : (tasks : List (Option Periodic)) (most : ℕ) → All (TakesAtMost most) tasks
    → total_demand tasks ≤ length tasks * most
total_at_most [] most all = omega arith
total_at_most (task ∷ tasks) most all =
    let rest = total_at_most tasks most (All-tail (TakesAtMost most) task tasks all) in
    let first = All-head (TakesAtMost most) task tasks all in
    let sum = sum_by-cons task_demand task tasks in
    let size : length (task ∷ tasks) ≡ length tasks + 1 = omega arith in
    rw size (omega arith)

-- the largest demand is at most this where none is more
largest_at_most : (tasks : List (Option Periodic)) (most : ℕ) → All (TakesAtMost most) tasks
    → largest_demand tasks ≤ most
largest_at_most [] most all = omega arith
largest_at_most (task ∷ tasks) most all =
    let rest = largest_at_most tasks most (All-tail (TakesAtMost most) task tasks all) in
    let first = All-head (TakesAtMost most) task tasks all in
    omega arith

-- each task of a generated host takes no more than the most percent
each_at_most : (seed cores vcpus : ℕ) (host : Host) (tasks : List (Option Periodic))
    → 1 ≤ most_percent cores vcpus → IsGenerated seed cores vcpus host → AreTasksOf host tasks
    → All (TakesAtMost (1026 * most_percent cores vcpus)) tasks
each_at_most seed cores vcpus host tasks some is are =
    All-from_get_or (TakesAtMost (1026 * most_percent cores vcpus)) tasks None (λ k low.
    let size = are.as_many in
    elim ((slice_get_cases host.vcpus k).1) [
      | inl (vcpu, within, at, same) ↦
          takes_at_most (most_percent cores vcpus) k (first_word seed k) (second_word seed k) vcpu
          (get_or tasks k None) some (is.each k vcpu at)
          (subst (λ tick. IsTaskOf vcpu.reservation tick (get_or tasks k None)) is.tick_ns
          (are.each k vcpu (get_or tasks k None) at (slice_get-get_or tasks k None low)))
      | inr (past, none) ↦ absurd (omega arith)
    ])

-- the bound, in numbers
within : (total largest vcpus others most : ℕ) → total ≤ vcpus * (1026 * most) → largest ≤ 1026 * most
    → (vcpus + others) * most ≤ 100 * (others + 1) → total + others * largest ≤ (others + 1) * 102600
within total largest vcpus others most sum each shared =
    let times = mul-le-mul_left others each in
    omega arith

-- the law of the bound
pub within_bound : (seed cores vcpus : ℕ) (host : Host) (tasks : List (Option Periodic))
    → vcpus ≤ 99 * cores + 1 → IsGenerated seed cores vcpus host → AreTasksOf host tasks
    → IsWithinBound tasks host.cores
within_bound seed cores vcpus host tasks shared is are =
    let same = is.cores_are in
    let some : 1 ≤ cores = (let one = host.some_core in omega arith) in
    let most = most_percent cores vcpus in
    let all = each_at_most seed cores vcpus host tasks (most_at_least cores vcpus some shared) is are in
    let size : length tasks ≡ vcpus = are.as_many ∙ is.as_many in
    let total : total_demand tasks ≤ vcpus * (1026 * most) =
    rw size at (total_at_most tasks (1026 * most) all) in
    let largest = largest_at_most tasks (1026 * most) all in
    let others : (cores - 1) + 1 ≡ cores = omega arith in
    let left : vcpus + (cores - 1) ≡ vcpus + cores - 1 = omega arith in
    rw same (
    rw others at (within (total_demand tasks) (largest_demand tasks) vcpus (cores - 1) most total largest
    (rw (others, left) (most_shared cores vcpus some)))
    )

-- ---- refusals

-- no vCPU of a generated host is without a period
pub has_periods : (seed cores vcpus : ℕ) (host : Host) (vcpu : ℕ) → IsGenerated seed cores vcpus host
    → IsFirstWithoutPeriod host vcpu → ⊥
has_periods seed cores vcpus host vcpu is first =
    never_lacks (percent_of (most_percent cores vcpus) (first_word seed vcpu)) (second_word seed vcpu)
    first.vcpu.reservation (is.each vcpu first.vcpu first.at).reservation
    (subst (LacksPeriod first.vcpu.reservation) is.tick_ns first.lacks)

-- a list with an element isn't empty
has_element : (before after : List ℕ) (vcpu : ℕ) → before ++ vcpu ∷ after ≡ [] → ⊥
has_element [] after vcpu same = absurd (cc)
has_element (first ∷ before) after vcpu same = absurd (cc)

-- no generated vCPU is without room, since worst fit leaves none over
pub has_room : (seed cores vcpus : ℕ) (host : Host) (vcpu rest : ℕ) (over : List Over)
    → vcpus ≤ 99 * cores + 1 → IsGenerated seed cores vcpus host
    → IsFirstWithoutRoom host vcpu rest over → ⊥
has_room seed cores vcpus host vcpu rest over shared is first =
    let start = first.is_start in
    let bound = within_bound seed cores vcpus host first.tasks shared is start.tasks_are in
    let none = none_left [] first.tasks host.cores start.placement.order host.some_core
    start.placement.falling_order bound in
    has_element first.stuck.before first.stuck.after vcpu
    (sym first.stuck.left_is ∙ start.placement.left ∙ none)
