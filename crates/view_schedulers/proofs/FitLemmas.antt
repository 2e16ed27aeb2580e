-- Tasks that fill a core just as far as it is given away: their parts come out even.
use Rattle.std.proofs.Common.{◌≡◌, ℕ, ◌+◌, ◌-◌, ◌*◌, ◌/◌, ◌≤◌, ◌==◌, ◌&&◌, ◌∙◌, ap, Bool, true, false, if◌then◌else◌, List, [], ◌∷◌, All, Some, None, refl, arith}
use Rattle.std.specs.Prelude.{nat_lt}
use Rattle.std.specs.List.{sum_by}
use Rattle.std.proofs.lemmas.Bool.{leb-true}
use Rattle.std.proofs.lemmas.Nat.{div-mul-add}
use Rattle.std.proofs.lemmas.List.Elements.{All-head, All-tail}
use Rattle.std.proofs.lemmas.List.Sums.{sum_by-cons}
use Rattle.tab_core.specs.declared.TheConstants.{ROUND}
use Rattle.view_doc.specs.declared.view.Task.{Task}
use Rattle.view_schedulers.specs.declared.TheConstants.{PARTS}
use Rattle.view_schedulers.specs.declared.scheduler.Scheduler.{Scheduler}
use Rattle.view_schedulers.specs.declared.scheduler.Scheduler.TheVariants.{Rtds, Deadline, FullDeadline, Quota}
use Rattle.view_schedulers.specs.declared.unkept.Unkept.{Unkept}
use Rattle.view_schedulers.specs.declared.unkept.Unkept.TheVariants.{Overbooked}
use Rattle.view_schedulers.specs.Budgets.{budget_on, has_budget, is_task, is_within, least_period, part_of, part_on, parts_given, parts_of, period_on, periods_of, rounded_cost, rounded_period, unit_of}
use Rattle.view_schedulers.specs.Fits.{FitsCore, IsEven, IsWhole, percent_of, ticks_at}
use Rattle.view_schedulers.specs.Unkept.{core_fault}

-- units of time are some nanoseconds
some_unit : (s : Scheduler) → 1 ≤ unit_of s
some_unit Rtds = omega arith
some_unit Deadline = omega arith
some_unit FullDeadline = omega arith
some_unit Quota = omega arith

-- a whole number of units isn't rounded down, nor up
rounded_down : (ticks units unit : ℕ) → 1 ≤ unit → ticks * (units * unit) / unit ≡ ticks * units
rounded_down ticks units unit some =
    let turned : ticks * (units * unit) ≡ ticks * units * unit + 0 = grind arith in
    ap (λ n. n / unit) turned ∙ div-mul-add (ticks * units) unit 0 (omega arith)

rounded_up : (ticks units unit : ℕ) → 1 ≤ unit → (ticks * (units * unit) + (unit - 1)) / unit ≡ ticks * units
rounded_up ticks units unit some =
    let turned : ticks * (units * unit) + (unit - 1) ≡ ticks * units * unit + (unit - 1) = grind arith in
    ap (λ n. n / unit) turned ∙ div-mul-add (ticks * units) unit (unit - 1) (omega arith)

-- the parts of so many costs in as many periods, of which a round has k
even_parts : (n c p u k period budget : ℕ) → period ≡ n * (p * u) → budget ≡ n * (c * u) → k * p ≡ ROUND → 1 ≤ period
    → part_of period budget ≡ c * k * 1000
even_parts n c p u k period budget periods budgets round some =
    let parts : PARTS ≡ k * p * 1000 = omega (arith, round) in
    let even : budget * PARTS ≡ c * k * 1000 * period = rw (parts, periods, budgets) (grind arith) in
    let turned : budget * PARTS + (period - 1) ≡ c * k * 1000 * period + (period - 1) = ap (λ m. m + (period - 1)) even in
    ap (λ m. m / period) turned ∙ div-mul-add (c * k * 1000) period (period - 1) (omega arith)

-- the first of two that hold
first : (a b : Bool) → (a && b) ≡ true → a ≡ true
first true b h = refl
first false b h = absurd cc

second : (a b : Bool) → (a && b) ≡ true → b ≡ true
second true b h = h
second false b h = absurd cc

-- schedulers take no period of nothing
some_least : (s : Scheduler) → 1 ≤ least_period s
some_least Rtds = omega arith
some_least Deadline = omega arith
some_least FullDeadline = omega arith
some_least Quota = omega arith

-- who has a budget has a period
some_period : (s : Scheduler) (tick : ℕ) (t : Task) → has_budget s tick t ≡ true → 1 ≤ period_on s tick t
some_period s tick t has =
    let fits = second (is_task t) _ has in
    let within = first (is_within s (period_on s tick t) (budget_on s tick t)) _ fits in
    let low : least_period s ≤ period_on s tick t = leb-true _ _ (first _ _ within) in
    let some = some_least s in
    omega (arith, low, some)

-- the parts of a task come out even
task_parts : (s : Scheduler) (tick : ℕ) (t : Task) → IsEven s tick → IsWhole t → has_budget s tick t ≡ true
    → part_of (period_on s tick t) (budget_on s tick t) ≡ t.cost * (ROUND / t.period) * 1000
task_parts s tick t even whole has =
    let down : rounded_period s tick t ≡ t.period * even.units =
    ap (λ n. t.period * n / unit_of s) even.are ∙ rounded_down t.period even.units (unit_of s) (some_unit s) in
    let up : rounded_cost s tick t ≡ t.cost * even.units =
    ap (λ n. (t.cost * n + (unit_of s - 1)) / unit_of s) even.are
    ∙ rounded_up t.cost even.units (unit_of s) (some_unit s) in
    let n : ℕ = periods_of s (rounded_cost s tick t) in
    even_parts n t.cost t.period even.units (ROUND / t.period) (period_on s tick t) (budget_on s tick t)
    (ap (λ m. n * m) down) (ap (λ m. n * m) up) whole.divides (some_period s tick t has)

-- what a task has of the core is no more than its ticks
task_fits : (s : Scheduler) (tick core : ℕ) (t : Task) → IsEven s tick → IsWhole t
    → part_on s tick core t ≤ ticks_at core t * 1000
task_fits s tick core t even whole = at (t.home == core) (has_budget s tick t) refl refl
  where
    at : (here has : Bool) → (t.home == core) ≡ here → has_budget s tick t ≡ has
        → part_on s tick core t ≤ ticks_at core t * 1000
    at true true h g = let same = task_parts s tick t even whole g in rw (h, g) (omega (arith, same))
    at true false h g = rw (h, g) (omega arith)
    at false has h g = rw h (omega arith)

-- all tasks together have no more than their ticks
parts_fit : (s : Scheduler) (tick core : ℕ) (tasks : List Task) → IsEven s tick → All IsWhole tasks
    → parts_given s tick core tasks ≤ sum_by (ticks_at core) tasks * 1000
parts_fit s tick core [] even whole = omega arith
parts_fit s tick core (t ∷ ts) even whole =
    let one = task_fits s tick core t even (All-head IsWhole t ts whole) in
    let rest = parts_fit s tick core ts even (All-tail IsWhole t ts whole) in
    let given : parts_given s tick core (t ∷ ts) ≡ part_on s tick core t + parts_given s tick core ts = sum_by-cons _ t ts in
    let ticks : sum_by (ticks_at core) (t ∷ ts) ≡ ticks_at core t + sum_by (ticks_at core) ts = sum_by-cons _ t ts in
    omega (arith, one, rest, given, ticks)

-- a percent of a core has so many parts
percent_parts : (s : Scheduler) → parts_of s ≡ percent_of s * ROUND * 10
percent_parts Rtds = refl
percent_parts Deadline = refl
percent_parts FullDeadline = refl
percent_parts Quota = refl

-- what isn't more isn't found to be
not_more : (a b : ℕ) (fault : Unkept) → b ≤ a → (if nat_lt a b then Some fault else None) ≡ None
not_more a b fault h = at (nat_lt a b) refl
  where
    at : (less : Bool) → nat_lt a b ≡ less → (if nat_lt a b then Some fault else None) ≡ None
    at true e = absurd (grind (arith))
    at false e = rw e refl

-- a core that is filled as far as it is given away isn't overbooked
pub fits : (s : Scheduler) (tick core : ℕ) (tasks : List Task) → FitsCore s tick core tasks
    → core_fault s tick tasks core ≡ None
fits s tick core tasks h =
    let all = parts_fit s tick core tasks h.even h.whole in
    let given = percent_parts s in
    not_more (parts_of s) (parts_given s tick core tasks) (Overbooked core) (omega (arith, all, given, h.few))
